-- Whole runs over lists of request bits.
use Rattle.std.proofs.Common.{◌≡◌, ℕ, zero, suc, ◌+◌, ◌≤◌, Bool, true, false, eqb, ltb, ◌||◌, List, [], ◌∷◌, ◌++◌, length, length-append, append-nil, append_assoc, Option, refl, sym, ap, ◌∙◌, subst, arith}
use Rattle.std.specs.Prelude.{option_to_list}
use Rattle.std.proofs.lemmas.Bool.Decides.{nat_tests}
use Rattle.mx_isa.specs.declared.board.TheConstants.{CODE_BASE}
use Rattle.mx_isa.specs.declared.place.Place.{Place}
use Rattle.mx_code.specs.Decoding.{inst_of}
use Rattle.mx_delay.specs.Delay.{Code, code_from}
use Rattle.mx_delay.specs.Clean.{Watched, watch_for}
use Rattle.mx_icache.specs.Residency.{resident}
use Rattle.mx_turn.specs.Counted.{one}
use Rattle.mx_turn.specs.Cycle.{MachineState, cycled, answer, after_bits}
use Rattle.mx_turn.specs.Program.{Program, code_of, code_with, program_of}
use Rattle.mx_turn.specs.Run.{is_requested, bits, bytes_on, passes, passed_on}
use Rattle.mx_turn.specs.OneTurn.{IsOnBoard}
use Rattle.mx_handler.proofs.Pauses.{Handled}
use Rattle.mx_delay.proofs.Watched.{past, clean_first}
use Rattle.law_interrupts.proofs.Pauses.{setting}
use Rattle.law_interrupts.proofs.Cycles.{Stands, Cycled, a_cycle}

-- how many requests come
abbrev pub asked_in : List Bool → ℕ
asked_in [] = 0
asked_in (b ∷ h) = one b + asked_in h

asked_more : (g h : List Bool) → asked_in (g ++ h) ≡ asked_in g + asked_in h
asked_more [] h = omega arith
asked_more (b ∷ g) h = let e = asked_more g h in omega (arith, e)

one_of : (a b c : Bool) (n : ℕ) → one (a || b) + n ≤ one a + (one b + n)
one_of true b c n = omega arith
one_of false b c n = omega arith

-- each request of a list comes in one cycle
one_more : (r n : ℕ) → one (ltb r n) + one (eqb r n) ≤ one (ltb r (suc n))
one_more r n = grind (arith, nat_tests)

asked_none : (n : ℕ) → asked_in (bits [] n) ≤ 0
asked_none zero = omega arith
asked_none (suc n) = let e = asked_more (bits [] n) (false ∷ []) in let f = asked_none n in omega (arith, e, f)

asked_first : (r : ℕ) (requests : List ℕ) (n : ℕ) → asked_in (bits (r ∷ requests) n) ≤ one (ltb r n) + asked_in (bits requests n)
asked_first r requests zero = omega arith
asked_first r requests (suc n) =
    let e = asked_more (bits (r ∷ requests) n) (is_requested (r ∷ requests) n ∷ []) in
    let f = asked_more (bits requests n) (is_requested requests n ∷ []) in
    let g = asked_first r requests n in
    let h = one_of (eqb r n) (is_requested requests n) false 0 in
    let k = one_more r n in
    omega (arith, e, f, g, h, k)

pub asked_few : (requests : List ℕ) (n : ℕ) → asked_in (bits requests n) ≤ length requests
asked_few [] n = asked_none n
asked_few (r ∷ requests) n = let e = asked_first r requests n in let f = asked_few requests n in let g = small (ltb r n) in omega (arith, e, f, g)
  where
    small : (b : Bool) → one b ≤ 1
    small true = omega arith
    small false = omega arith

pub length_bits : (requests : List ℕ) (n : ℕ) → length (bits requests n) ≡ n
length_bits requests zero = refl
length_bits requests (suc n) = length-append (bits requests n) (is_requested requests n ∷ []) ∙ (let e = length_bits requests n in omega (arith, e))

-- a word needs a cycle
pub passed_few : (q : Program) (h : List Bool) (m : MachineState) → passed_on q m h ≤ length h
passed_few q [] m = omega arith
passed_few q (b ∷ h) m = let e = passed_few q h (cycled resident (code_of q) q.input m b) in let f = small (passes m) in omega (arith, e, f)
  where
    small : (b : Bool) → one b ≤ 1
    small true = omega arith
    small false = omega arith

no_more : (n : ℕ) → n ≡ n + 0
no_more n = omega arith

module _ (handler_words user_words : List ℕ) (inside : ℕ → Bool) (p : Place) (input : Option (List ℕ)) (data_words : List ℕ) where
  abbrev pub program : Program
  program = program_of handler_words user_words data_words input

  abbrev handler : Code
  handler = code_from inst_of 0 handler_words

  abbrev user : Code
  user = code_from inst_of CODE_BASE user_words

  abbrev pub steps : ℕ → Watched → Watched
  steps n s = watch_for user inside p input n s

  abbrev Standing : MachineState → Watched → ℕ → ℕ → ℕ → Type 0
  Standing m s w cycles asked = Stands handler user inside p input m s w cycles asked

  -- the machine after some bits, and after one
  abbrev after : MachineState → List Bool → MachineState
  after m h = after_bits resident (code_with handler user) input m h

  abbrev after_one : MachineState → Bool → MachineState
  after_one m b = cycled resident (code_with handler user) input m b

  -- the machine after these bits, and what it sent
  pub record Ran (h : List Bool) (m : MachineState) (s : Watched) (w cycles asked : ℕ) : Type 0 where
    pub console : s.at.console ++ bytes_on program m h ≡ (steps (passed_on program m h) s).at.console
    pub stands : Standing (after m h) (steps (passed_on program m h) s) (w + passed_on program m h) (cycles + length h) (asked + asked_in h)

  -- the first of some steps
  steps_past : (b : Bool) (n : ℕ) (s : Watched) → steps (one b + n) s ≡ steps n (past user inside p input b s)
  steps_past true n s = ap (λ k. steps k s) (let e : 1 + n ≡ suc n = omega arith in e)
  steps_past false n s = ap (λ k. steps k s) (let e : 0 + n ≡ n = omega arith in e)

  stands_at : (m : MachineState) (s : Watched) (w w' cycles cycles' asked asked' : ℕ) → w ≡ w' → cycles ≡ cycles' → asked ≡ asked'
      → Standing m s w cycles asked → Standing m s w' cycles' asked'
  stands_at m s w w' cycles cycles' asked asked' e f g x =
      subst (λ y. Standing m s y cycles' asked') e
      (subst (λ y. Standing m s w y asked') f
      (subst (λ y. Standing m s w cycles y) g x))

  -- where so many requests come at most
  module _ (at_board : IsOnBoard p) (at_code : p.code ≡ CODE_BASE) (most : ℕ) (handled : 1 ≤ most → Handled (setting handler user inside p input)) where
    -- one more bit in front
    module _ (b : Bool) (h : List Bool) (m : MachineState) (s : Watched) (w cycles asked : ℕ) where
      abbrev n : MachineState
      n = after_one m b

      abbrev s' : Watched
      s' = past user inside p input (passes m) s

      first : steps (one (passes m) + passed_on program n h) s ≡ steps (passed_on program n h) s'
      first = steps_past (passes m) (passed_on program n h) s

      one_first : asked + asked_in (b ∷ h) ≤ most → Standing m s w cycles asked
          → (steps (passed_on program m (b ∷ h)) s).clean ≡ true
          → (Standing n s' (w + one (passes m)) (cycles + 1) (asked + one b) → (steps (passed_on program n h) s').clean ≡ true
          → Ran h n s' (w + one (passes m)) (cycles + 1) (asked + one b))
          → Ran (b ∷ h) m s w cycles asked
      one_first few st clean more = record {
        console =
            sym (append_assoc s.at.console (option_to_list (answer (code_with handler user) input m b).byte) (bytes_on program n h))
            ∙ ap (λ x. x ++ bytes_on program n h) one_cycle.sends
            ∙ rest.console
            ∙ ap (λ (x : Watched). x.at.console) (sym first);
        stands = subst (λ x. Standing (after n h) x (w + passed_on program m (b ∷ h)) (cycles + length (b ∷ h)) (asked + asked_in (b ∷ h))) (sym first)
            (stands_at (after n h) (steps (passed_on program n h) s') _ _ _ _ _ _
            (let e : w + one (passes m) + passed_on program n h ≡ w + (one (passes m) + passed_on program n h) = omega arith in e)
            (let e : cycles + 1 + length h ≡ cycles + suc (length h) = omega arith in e)
            (let e : asked + one b + asked_in h ≡ asked + (one b + asked_in h) = omega arith in e)
            rest.stands);
      }
        where
          clean' : (steps (passed_on program n h) s').clean ≡ true
          clean' = sym (ap (λ (x : Watched). x.clean) first) ∙ clean

          one_cycle : Cycled handler user inside p input m n (answer (code_with handler user) input m b).byte (passes m) b s w cycles asked
          one_cycle = a_cycle handler user inside p input at_board at_code m b s w cycles asked (λ e. handled (omega (arith, e, few))) st
              (clean_first user inside p input (passed_on program n h) s' clean')

          rest : Ran h n s' (w + one (passes m)) (cycles + 1) (asked + one b)
          rest = more one_cycle.stands clean'

    pub runs : (h : List Bool) (m : MachineState) (s : Watched) (w cycles asked : ℕ) → asked + asked_in h ≤ most
        → Standing m s w cycles asked
        → (steps (passed_on program m h) s).clean ≡ true → Ran h m s w cycles asked
    runs [] m s w cycles asked few st clean = record {
      console = append-nil s.at.console;
      stands = stands_at m s w _ cycles _ asked _ (no_more w) (no_more cycles) (no_more asked) st;
    }
    runs (b ∷ h) m s w cycles asked few st clean =
        one_first b h m s w cycles asked few st clean
        (λ x c. runs h (after_one m b) (past user inside p input (passes m) s) (w + one (passes m)) (cycles + 1) (asked + one b) (omega (arith, few)) x c)
