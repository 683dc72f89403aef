-- Lines that work on registers alone, one after the other. The invariant is `Stands`: the run is at the next line's statement, or at that
-- after the label to which lines are skipped.
use Rattle.std.proofs.Common.{◌≡◌, ◌≢◌, ℕ, suc, ◌+◌, ◌^◌, ◌<◌, ◌≤◌, Bool, true, false, cond, eqb, ◌||◌, List, [], ◌∷◌, ◌++◌, map, Option, Some, None, Result, Ok, option_to_list, refl, sym, ap, ◌∙◌, subst, arith}
use Rattle.std.specs.Prelude.{All, count_by, slice_get, ◌==◌, pos}
use Rattle.std.specs.Int.{w32, cast_signed, cast_unsigned}
use Rattle.std.specs.List.{list_all}
use Rattle.std.proofs.lemmas.Bool.{and_parts, false≢true}
use Rattle.std.proofs.lemmas.Bool.Decides.{nat_tests}
use Rattle.std.proofs.lemmas.Int.{of_z-to_z}
use Rattle.std.proofs.lemmas.List.{append-nil, append_assoc}
use Rattle.std.proofs.lemmas.List.Elements.{All-nil, All-cons, All-head, All-tail}
use Rattle.std.proofs.lemmas.List.Sums.{sum_by_push}
use Rattle.mx_isa.specs.declared.inst.Op.{Op}
use Rattle.mx_isa.specs.declared.inst.Op.TheVariants as op
use Rattle.mx_isa.specs.declared.inst.Inst.TheVariants.{Compute as ComputeInst, Addi as AddiInst, Load as LoadInst}
use Rattle.mx_isa.specs.declared.place.Place.{Place}
use Rattle.mx_isa.specs.Words.{Words, reg, write}
use Rattle.mx_isa.specs.Arithmetic.{word_of, result_of, md_after}
use Rattle.mx_isa.specs.Effect.{Core, Bus, act, op_uses_md, offset_by, or_kept}
use Rattle.mx_isa.specs.Views.{dest}
use Rattle.mx_isa.proofs.Frame.{same_words}
use Rattle.mx_source.specs.declared.statement.Label.TheVariants.{Code}
use Rattle.mx_source.specs.declared.statement.Statement.{Statement}
use Rattle.mx_source.specs.declared.statement.Statement.TheVariants as statement
use Rattle.mx_source.specs.declared.statement.Value.{Value}
use Rattle.mx_source.specs.declared.statement.Value.TheVariants.{Int, Code as CodeValue}
use Rattle.mx_source.specs.SourceValue.{SourceValue}
use Rattle.mx_source.specs.Values.{Values, value_in, write_value, is_code, word_in, words_in, passed_on}
use Rattle.mx_source.specs.Meaning.{Program as Machine, State, Step, Going, program, silent, perform, execute, if_going, step, run_for}
use Rattle.mx_lines.specs.declared.fault.Fault.{Fault}
use Rattle.mx_lines.specs.Operands.{label_named, code_label}
use Rattle.mx_lines.specs.Reading.{◌>>=◌}
use Rattle.cc_lines.specs.declared.instruction.Condition.{Condition}
use Rattle.cc_lines.specs.Conditions.{holds}
use Rattle.cc_program.specs.declared.program.Program.{Program}
use Rattle.cc_emit.specs.declared.line.Computed.{Computed}
use Rattle.cc_emit.specs.declared.line.Computed.TheVariants as computed
use Rattle.cc_emit.specs.declared.line.Line.{Line}
use Rattle.cc_emit.specs.declared.line.Line.TheVariants.{Plain as PlainLine, Transfer as TransferLine, Constant, Mark, Told}
use Rattle.cc_emit.specs.declared.line.Plain.{Plain}
use Rattle.cc_emit.specs.declared.line.Plain.TheVariants.{Compute, Move, Not, Addi, Asr, Sh, Load, Store}
use Rattle.cc_emit.specs.declared.line.Target.TheVariants.{Skip}
use Rattle.cc_emit.specs.declared.line.Transfer.TheVariants.{Branch}
use Rattle.cc_emit.specs.declared.line.Word.TheVariants.{Number}
use Rattle.cc_emit.specs.Lines.{is_statement, is_short}
use Rattle.cc_emit.specs.Statements.{target_label, word_label}
use Rattle.law_emit.specs.Reading.{LineFits, line_statement, statement_count}
use Rattle.law_emit.specs.Statements.{operation, instruction, branch, take_statement, constant_statement}
use Rattle.law_operations.specs.Runs.{marks, ran, ran_from, ran_lines}
use Rattle.law_code.specs.Code.{is_alone, written, read, also, Has, Knows, IsAt, NumberHeld, HoldWords, AreWords, as_word, as_words, core_of, copied, ComesTo, Runs}
use Rattle.law_code.proofs.Steps.{put, to, word_value, copy_step, compute_step, addi_step, load_step, branch_step}
use Rattle.law_code.proofs.Found.{Rest, onward, statement_at, past, count_cons, ok_is, code_named, data_named}

-- a register of a core is written
abbrev wrote : ℕ → ℕ → Core → Core
wrote d x c = record c { regs = write c.regs d x }

as_if : (link : ℕ → ℕ) (b : Bool) (u v : Value) → as_word link (cond b u v) ≡ cond b (as_word link u) (as_word link v)
as_if link true u v = refl
as_if link false u v = refl

as_value : (link : ℕ → ℕ) (r : Values) (n : ℕ) → as_word link (value_in r n) ≡ reg (as_words link r) n
as_value link r n = as_if link (eqb n 0) (Int 0) (r n)

as_write : (link : ℕ → ℕ) (f : Values) (d : ℕ) (v : Value) → as_words link (write_value f d v) ≡ write (as_words link f) d (as_word link v)
as_write link f d v = same_words _ _ (λ n. grind (arith, nat_tests))

core_put : (link : ℕ → ℕ) (i d : ℕ) (v : Value) (s : State) → core_of link (put i d v s) ≡ wrote d (as_word link v) (core_of link s)
core_put link i d v s = ap (λ r. wrote_as r) (as_write link s.regs d v)
  where
    wrote_as : Words → Core
    wrote_as r = record { regs = r; md = s.md; mem = as_words link s.mem; taken = s.taken }

-- a word is the same, whatever words places of code are
same_word : (link : ℕ → ℕ) (v : Value) → is_code v ≡ false → as_word link v ≡ word_in v
same_word link (Int w) h = refl
same_word link (CodeValue i) h = absurd (cc)

seen : (link : ℕ → ℕ) (r : Values) (n : ℕ) → is_code (value_in r n) ≡ false → reg (as_words link r) n ≡ reg (words_in r) n
seen link r n h = sym (as_value link r n) ∙ same_word link (value_in r n) h ∙ word_value r n

-- a copy of a value
passes : (link : ℕ → ℕ) → AreWords link → (v : Value) (w : ℕ) → w ≡ word_in v
    → as_word link (passed_on v (word_of (w + 0))) ≡ word_of (as_word link v + 0)
passes link l (Int x) w e = ap (λ m. word_of (m + 0)) e
passes link l (CodeValue i) w e = let small = l i in omega (arith, small)

acts : (bus : Bus) (a d b : ℕ) (c : Op) (s : Core) → op_uses_md c ≡ false
    → act bus (ComputeInst a d b c) 0 s.regs s ≡ wrote d (result_of c (reg s.regs a) (reg s.regs b) s.md) s
acts bus a d b c s leaves = ap shape leaves
  where
    shape : Bool → Core
    shape uses = record {
      regs = write s.regs d (result_of c (reg s.regs a) (reg s.regs b) s.md);
      md = or_kept (cond uses (Some (md_after c (reg s.regs a) (reg s.regs b) s.md)) None) s.md;
      mem = s.mem;
      taken = s.taken;
    }

no_md : (c : Computed) → op_uses_md (operation c) ≡ false
no_md computed.Add = refl
no_md computed.Sub = refl
no_md computed.And = refl
no_md computed.Or = refl
no_md computed.Xor = refl
no_md computed.Bic = refl
no_md computed.Rotlb = refl

-- a register of the set holds a word, and so does r0
has_word : (words : ℕ → Bool) (s : State) (n : ℕ) → HoldWords words s → Has words n → is_code (value_in s.regs n) ≡ false
has_word words s n h k = by_zero (eqb n 0) refl k
  where
    by_zero : (t : Bool) → eqb n 0 ≡ t → t || words n ≡ true → is_code (value_in s.regs n) ≡ false
    by_zero true e k = ap (λ t. is_code (cond t (Int 0) (s.regs n))) e
    by_zero false e k = h n k

put_words : (r : Values) (d : ℕ) (v : Value) (n : ℕ) → (n ≡ d → is_code v ≡ false) → (n ≢ 0 → n ≢ d → is_code (value_in r n) ≡ false)
    → is_code (value_in (write_value r d v) n) ≡ false
put_words r d v n new old = by_zero (eqb n 0) refl
  where
    by_same : (t : Bool) → eqb n d ≡ t → eqb n 0 ≡ false → is_code (write_value r d v n) ≡ false
    by_same true e z =
        let same : n ≡ d = grind (arith, nat_tests) in
        let word = new same in
        let is : write_value r d v n ≡ v = grind (arith, nat_tests) in
        ap is_code is ∙ word
    by_same false e z =
        let apart : n ≢ d = grind (arith, nat_tests) in
        let nonzero : n ≢ 0 = grind (arith, nat_tests) in
        let is : write_value r d v n ≡ r n = grind (arith, nat_tests) in
        ap is_code is ∙ ap (λ t. is_code (cond t (Int 0) (r n))) (sym z) ∙ old nonzero apart

    by_zero : (t : Bool) → eqb n 0 ≡ t → is_code (value_in (write_value r d v) n) ≡ false
    by_zero true e = ap (λ t. is_code (cond t (Int 0) (write_value r d v n))) e
    by_zero false e = ap (λ t. is_code (cond t (Int 0) (write_value r d v n))) e ∙ by_same (eqb n d) refl e

still_words : (words : ℕ → Bool) (i d x : ℕ) (s : State) → HoldWords words s → HoldWords (also words d) (to i d x s)
still_words words i d x s h n k = put_words s.regs d (Int x) n (λ e. refl) (λ nonzero apart. h n (other nonzero apart))
  where
    other : n ≢ 0 → n ≢ d → words n ≡ true
    other nonzero apart = grind (arith, nat_tests)

word_copied : (v : Value) (x : ℕ) → is_code v ≡ false → is_code (passed_on v x) ≡ false
word_copied (Int w) x h = refl
word_copied (CodeValue i) x h = h

copied_words : (words : ℕ → Bool) (i rs rd x : ℕ) (s : State) → HoldWords words s
    → HoldWords (copied words rs rd) (put i rd (passed_on (value_in s.regs rs) x) s)
copied_words words i rs rd x s h n k =
    put_words s.regs rd (passed_on (value_in s.regs rs) x) n
    (λ e. word_copied (value_in s.regs rs) x (has_word words s rs h (first e)))
    (λ nonzero apart. h n (other apart))
  where
    first : n ≡ rd → also words 0 rs ≡ true
    first e = grind (arith, nat_tests)

    other : n ≢ rd → words n ≡ true
    other apart = grind (arith, nat_tests)

unwritten : (f : Values) (d : ℕ) (v : Value) (n : ℕ) → d ≢ n → write_value f d v n ≡ f n
unwritten f d v n ne = grind (arith, nat_tests)

module _ (machine : Machine) (s : State) where
  step_is : (st : Statement) → s.mark ≡ Going → slice_get machine.statements s.index ≡ Some st → step machine s ≡ execute machine (Some st) s
  step_is st going at =
      ap (λ m. if_going m (execute machine (slice_get machine.statements s.index) s) s) going
      ∙ ap (λ o. execute machine o s) at

  -- an instruction on registers
  record Writes (bus : Bus) (plain : Plain) : Type 0 where
    word : ℕ
    moves : perform machine (instruction plain) s ≡ silent (to (suc s.index) (dest (instruction plain)) word s)
    acts : (link : ℕ → ℕ) → act bus (instruction plain) 0 (as_words link s.regs) (core_of link s) ≡ wrote (dest (instruction plain)) word (core_of link s)

  computes : (bus : Bus) (a d b : ℕ) (c : Op) → op_uses_md c ≡ false → is_code (value_in s.regs a) ≡ false → is_code (value_in s.regs b) ≡ false
      → (word : ℕ) × (perform machine (ComputeInst a d b c) s ≡ silent (to (suc s.index) d word s))
      × ((link : ℕ → ℕ) → act bus (ComputeInst a d b c) 0 (as_words link s.regs) (core_of link s) ≡ wrote d word (core_of link s))
  computes bus a d b c leaves h k = (
    result_of c (reg (words_in s.regs) a) (reg (words_in s.regs) b) s.md,
    compute_step machine s a d b c leaves h k,
    λ link. acts bus a d b c (core_of link s) leaves
        ∙ ap (λ x. wrote d (result_of c x (reg (as_words link s.regs) b) s.md) (core_of link s)) (seen link s.regs a h)
        ∙ ap (λ y. wrote d (result_of c (reg (words_in s.regs) a) y s.md) (core_of link s)) (seen link s.regs b k),
  )

  plain_writes : (bus : Bus) (plain : Plain) → is_alone (PlainLine plain) ≡ true → is_code (value_in s.regs (read (PlainLine plain)).0) ≡ false
      → is_code (value_in s.regs (read (PlainLine plain)).1) ≡ false → Writes bus plain
  plain_writes bus (Compute c a b rd) alone h k =
      let w = computes bus a rd b (operation c) (no_md c) h k in record { word = w.0; moves = w.1; acts = w.2 }
  plain_writes bus (Move rs rd) alone h k = let w = computes bus rs rd 0 op.Add refl h k in record { word = w.0; moves = w.1; acts = w.2 }
  plain_writes bus (Not rs rd) alone h k = let w = computes bus rs rd 0 op.Not refl h k in record { word = w.0; moves = w.1; acts = w.2 }
  plain_writes bus (Asr rs count rd) alone h k = let w = computes bus rs rd 0 (op.Asr count) refl h k in record { word = w.0; moves = w.1; acts = w.2 }
  plain_writes bus (Sh a b count rd) alone h k = let w = computes bus a rd b (op.Sh count) refl h k in record { word = w.0; moves = w.1; acts = w.2 }
  plain_writes bus (Addi rs number rd) alone h k =
      record {
        word = offset_by (words_in s.regs) rs number;
        moves = addi_step machine s rs rd number h;
        acts = λ link. ap (λ x. wrote rd (word_of (x + cast_unsigned w32 number)) (core_of link s)) (seen link s.regs rs h);
      }
  plain_writes bus (Load offset base rd) alone h k = absurd (cc)
  plain_writes bus (Store offset base rs) alone h k = absurd (cc)

module _ (p : Program) (source : SourceValue) (place : Place) (bytes : List ℕ) (tail : List Line) (last : ℕ → Bool) (bus : Bus) where
  abbrev machine : Machine
  machine = program source place bytes

  abbrev label : ℕ → List ℕ
  label n = target_label p.symbols.list.items (Skip n)

  -- the labels of these lines name the statements after them, of which the first has this number
  abbrev Marked : ℕ → Line → Type 0
  Marked k (Mark (Skip n)) = label_named source.labels (label n) ≡ Some (Code k)
  Marked k _ = Unit {0}

  abbrev AllMarked : ℕ → List Line → Type 0
  AllMarked k [] = Unit {0}
  AllMarked k (line ∷ code) = Marked k line × AllMarked (k + statement_count line) code

  record Ready (k : ℕ) (code : List Line) : Type 0 where
    fits : All (LineFits p) code
    rest : Rest source.labels p source.statements k (code ++ tail)
    marked : AllMarked k code
    alone : list_all is_alone code ≡ true

  ready_on : (k : ℕ) (line : Line) (code : List Line) → Ready k (line ∷ code) → Ready (k + statement_count line) code
  ready_on k line code r = record {
    fits = All-tail (LineFits p) line code r.fits;
    rest = onward source.labels p source.statements k line (code ++ tail) (All-head (LineFits p) line code r.fits) r.rest;
    marked = r.marked.1;
    alone = (and_parts _ _ r.alone).1;
  }

  -- where the run is, before a line that is or is not skipped
  abbrev Stands : ℕ → Option ℕ → State → Type 0
  Stands k None s = s.index ≡ k
  Stands k (Some m) s = label_named source.labels (label m) ≡ Some (Code s.index)

  record Goes (skips : Option ℕ) (code : List Line) (end : ℕ) (s : State) : Type 0 where
    steps : ℕ
    few : steps ≤ count_by is_statement code
    after : State
    runs : (console : List ℕ) → run_for machine steps (record { state = s; console = console }) ≡ record { state = after; console = console }
    index : after.index ≡ end
    going : after.mark ≡ Going
    core : (link : ℕ → ℕ) → AreWords link → core_of link after ≡ ran_from bus skips code (core_of link s)
    words : HoldWords last after
    kept : (n : ℕ) → All (λ line. written line ≢ n) code → after.regs n ≡ s.regs n
    md : after.md ≡ s.md
    mem : after.mem ≡ s.mem
    taken : after.taken ≡ s.taken

  -- the place after a line
  after_line : (k : ℕ) (line : Line) (code : List Line)
      → k + statement_count line + count_by is_statement code ≡ k + count_by is_statement (line ∷ code)
  after_line k line code = omega (arith, count_cons line code)

  -- nothing runs for a line
  still : (skips later : Option ℕ) (k : ℕ) (line : Line) (code : List Line) (s : State)
      → ((c : Core) → ran_from bus skips (line ∷ code) c ≡ ran_from bus later code c)
      → Goes later code (k + statement_count line + count_by is_statement code) s → Goes skips (line ∷ code) (k + count_by is_statement (line ∷ code)) s
  still skips later k line code s does g = record {
    steps = g.steps;
    few = let f = g.few in omega (arith, f, count_cons line code);
    after = g.after;
    runs = g.runs;
    index = g.index ∙ after_line k line code;
    going = g.going;
    core = λ link l. g.core link l ∙ sym (does (core_of link s));
    words = g.words;
    kept = λ n h. g.kept n (All-tail (λ l. written l ≢ n) line code h);
    md = g.md;
    mem = g.mem;
    taken = g.taken;
  }

  -- a statement runs for a line
  stepped : (later : Option ℕ) (k : ℕ) (line : Line) (code : List Line) (s : State) (i d : ℕ) (v : Value) → statement_count line ≡ 1
      → step machine s ≡ silent (put i d v s)
      → ((link : ℕ → ℕ) → AreWords link
      → ran_from bus None (line ∷ code) (core_of link s) ≡ ran_from bus later code (wrote d (as_word link v) (core_of link s)))
      → ((n : ℕ) → written line ≢ n → write_value s.regs d v n ≡ s.regs n)
      → Goes later code (k + statement_count line + count_by is_statement code) (put i d v s)
      → Goes None (line ∷ code) (k + count_by is_statement (line ∷ code)) s
  stepped later k line code s i d v one moves does keeps g = record {
    steps = suc g.steps;
    few = let f = g.few in omega (arith, f, one, count_cons line code);
    after = g.after;
    runs = λ console.
        ap (λ (t : Step). run_for machine g.steps (record { state = t.after; console = console ++ option_to_list t.byte })) moves
        ∙ ap (λ c. run_for machine g.steps (record { state = put i d v s; console = c })) (append-nil console)
        ∙ g.runs console;
    index = g.index ∙ after_line k line code;
    going = g.going;
    core = λ link l. g.core link l ∙ ap (ran_from bus later code) (core_put link i d v s) ∙ sym (does link l);
    words = g.words;
    kept =
        λ n h. g.kept n (All-tail (λ l. written l ≢ n) line code h)
        ∙ keeps n (All-head (λ l. written l ≢ n) line code h);
    md = g.md;
    mem = g.mem;
    taken = g.taken;
  }

  -- where lines are skipped
  skipped_on : (m k : ℕ) (line : Line) (s : State) → Marked k line → Stands k (Some m) s
      → Stands (k + statement_count line) (cond (marks m line) None (Some m)) s
  skipped_on m k (Mark (Skip n)) s h l = by_same (m == n) refl
    where
      code_is : (i j : ℕ) → Some (Code i) ≡ Some (Code j) → i ≡ j
      code_is i j e = cc

      by_same : (t : Bool) → (m == n) ≡ t → Stands (k + 0) (cond t None (Some m)) s
      by_same true e =
          let same : m ≡ n = grind (arith, nat_tests) in
          let here = code_is s.index k (sym l ∙ ap (λ i. label_named source.labels (label i)) same ∙ h) in
          omega (arith, here)
      by_same false e = l
  skipped_on m k _ s h l = l

  -- the statement of the next line
  record Begins (s : State) (result : Result Statement Fault) : Type 0 where
    statement : Statement
    is : result ≡ Ok statement
    moves : step machine s ≡ execute machine (Some statement) s

  begins : (k : ℕ) (line : Line) (code : List Line) (s : State) (result : Result Statement Fault) → line_statement source.labels p line ≡ Some result
      → Ready k (line ∷ code) → s.index ≡ k → s.mark ≡ Going → Begins s result
  begins k line code s result said r stands going =
      let h = statement_at source.labels p source.statements k line (code ++ tail) result said r.rest in
      record {
        statement = h.statement;
        is = h.is;
        moves = step_is machine s h.statement going (ap (slice_get source.statements) stands ∙ h.at);
      }

  number_step : (value rd : ℕ) (s : State) (st : Statement) → value < 2 ^ 32 → NumberHeld source place s.mem (Constant value rd)
      → constant_statement source.labels value rd ≡ Ok st → execute machine (Some st) s ≡ silent (to (suc s.index) rd value s)
  number_step value rd s st small held h = by_short (is_short (cast_signed w32 value)) refl h
    where
      shown : (x : ℕ) → x ≡ value → word_of (0 + x) ≡ value
      shown x e = omega (arith, e, small)

      by_short : (t : Bool) → is_short (cast_signed w32 value) ≡ t
          → cond t (Ok (statement.Plain (AddiInst 0 rd (cast_signed w32 value)))) (take_statement source.labels (Number value) 0 rd) ≡ Ok st
          → execute machine (Some st) s ≡ silent (to (suc s.index) rd value s)
      by_short true e k =
          ap (λ o. execute machine (Some o) s) (sym (ok_is (statement.Plain (AddiInst 0 rd (cast_signed w32 value))) st k))
          ∙ addi_step machine s 0 rd (cast_signed w32 value) refl
          ∙ ap (λ x. silent (to (suc s.index) rd x s)) (shown (cast_unsigned w32 (cast_signed w32 value)) (of_z-to_z w32 value small))
      by_short false e k =
          let own = held e in
          let load = statement.Plain (LoadInst 0 rd (pos own.address)) in
          let made = ap (λ r. r >>= λ a. Ok (statement.Plain (LoadInst 0 rd (pos a))))
          (data_named source.labels (word_label (Number value)) own.address own.label) in
          ap (λ o. execute machine (Some o) s) (sym (ok_is load st (sym made ∙ k)))
          ∙ load_step machine s rd own.address value own.user own.word

  -- a branch is taken or not
  chosen : (t : Bool) (c : Condition) (a b m k i : ℕ) (code : List Line) (s : State)
      → holds c (reg (words_in s.regs) a) (reg (words_in s.regs) b) ≡ t
      → ((link : ℕ → ℕ) → holds c (reg (as_words link s.regs) a) (reg (as_words link s.regs) b) ≡ holds c (reg (words_in s.regs) a) (reg (words_in s.regs) b))
      → step machine s ≡ silent (to (cond (holds c (reg (words_in s.regs) a) (reg (words_in s.regs) b)) i (suc s.index)) 0 0 s)
      → Goes (Some m) code (k + 1 + count_by is_statement code) (to i 0 0 s)
      → Goes None code (k + 1 + count_by is_statement code) (to (suc s.index) 0 0 s)
      → Goes None (TransferLine (Branch c a b (Skip m)) ∷ code) (k + count_by is_statement (TransferLine (Branch c a b (Skip m)) ∷ code)) s
  chosen true c a b m k i code s e same moves taken falls =
      stepped (Some m) k (TransferLine (Branch c a b (Skip m))) code s i 0 (Int 0) refl
      (moves ∙ ap (λ t. silent (to (cond t i (suc s.index)) 0 0 s)) e)
      (λ link l. ap (λ t. ran_from bus (cond t (Some m) None) code (core_of link s)) (same link ∙ e)) (λ n h. refl) taken
  chosen false c a b m k i code s e same moves taken falls =
      stepped None k (TransferLine (Branch c a b (Skip m))) code s (suc s.index) 0 (Int 0) refl
      (moves ∙ ap (λ t. silent (to (cond t i (suc s.index)) 0 0 s)) e)
      (λ link l. ap (λ t. ran_from bus (cond t (Some m) None) code (core_of link s)) (same link ∙ e)) (λ n h. refl) falls

  goes : (skips : Option ℕ) (code : List Line) (k : ℕ) (words : ℕ → Bool) (s : State) → Ready k code → Knows skips words code last → Stands k skips s
      → s.mark ≡ Going → HoldWords words s → All (NumberHeld source place s.mem) code → Goes skips code (k + count_by is_statement code) s
  goes None [] k words s ready knows stands going hold held = record {
    steps = 0;
    few = omega arith;
    after = s;
    runs = λ console. refl;
    index = omega (arith, stands);
    going = going;
    core = λ link l. refl;
    words = λ n h. hold n (knows n h);
    kept = λ n h. refl;
    md = refl;
    mem = refl;
    taken = refl;
  }
  goes (Some m) [] k words s ready knows stands going hold held = absurd knows
  goes (Some m) (line ∷ code) k words s ready knows stands going hold held =
      still (Some m) (cond (marks m line) None (Some m)) k line code s (λ c. refl)
      (goes (cond (marks m line) None (Some m)) code (k + statement_count line) words s (ready_on k line code ready) knows
      (skipped_on m k line s ready.marked.0 stands) going hold (All-tail (NumberHeld source place s.mem) line code held))
  goes None (PlainLine (Move rs rd) ∷ code) k words s ready knows stands going hold held =
      let line = PlainLine (Move rs rd) in
      let inst = ComputeInst rs rd 0 op.Add in
      let b = begins k line code s (Ok (statement.Plain inst)) refl ready stands going in
      let x = word_of (reg (words_in s.regs) rs + 0) in
      let v = passed_on (value_in s.regs rs) x in
      stepped None k line code s (suc s.index) rd v refl
      (b.moves ∙ ap (λ o. execute machine (Some o) s) (sym (ok_is (statement.Plain inst) b.statement b.is)) ∙ copy_step machine s rs rd)
      (λ link l. ap (λ m. ran_from bus None code (wrote rd m (core_of link s)))
      (ap (λ m. word_of (m + 0)) (sym (as_value link s.regs rs))
      ∙ sym (passes link l (value_in s.regs rs) (reg (words_in s.regs) rs) (sym (word_value s.regs rs)))))
      (λ n ne. unwritten s.regs rd v n ne)
      (goes None code (k + 1) (copied words rs rd) (put (suc s.index) rd v s) (ready_on k line code ready) knows (omega (arith, stands)) going
      (copied_words words (suc s.index) rs rd x s hold) (All-tail (NumberHeld source place s.mem) line code held))
  goes None (PlainLine plain ∷ code) k words s ready knows stands going hold held =
      let line = PlainLine plain in
      let b = begins k line code s (Ok (statement.Plain (instruction plain))) refl ready stands going in
      let w = plain_writes machine s bus plain (and_parts (is_alone line) (list_all is_alone code) ready.alone).0 (has_word words s (read line).0 hold knows.0)
      (has_word words s (read line).1 hold knows.1) in
      let d = dest (instruction plain) in
      stepped None k line code s (suc s.index) d (Int w.word) refl
      (b.moves ∙ ap (λ o. execute machine (Some o) s) (sym (ok_is (statement.Plain (instruction plain)) b.statement b.is)) ∙ w.moves)
      (λ link l. ap (ran_from bus None code) (w.acts link)) (λ n ne. unwritten s.regs d (Int w.word) n ne)
      (goes None code (k + 1) (also words d) (to (suc s.index) d w.word s) (ready_on k line code ready) knows.2 (omega (arith, stands)) going
      (still_words words (suc s.index) d w.word s hold) (All-tail (NumberHeld source place s.mem) line code held))
  goes None (Constant value rd ∷ code) k words s ready knows stands going hold held =
      let line = Constant value rd in
      let b = begins k line code s (constant_statement source.labels value rd) refl ready stands going in
      let fits = All-head (LineFits p) line code ready.fits in
      let moves = number_step value rd s b.statement fits.0 (All-head (NumberHeld source place s.mem) line code held) b.is in
      stepped None k line code s (suc s.index) rd (Int value) refl (b.moves ∙ moves) (λ link l. refl) (λ n ne. unwritten s.regs rd (Int value) n ne)
      (goes None code (k + 1) (also words rd) (to (suc s.index) rd value s) (ready_on k line code ready) knows.2 (omega (arith, stands)) going
      (still_words words (suc s.index) rd value s hold) (All-tail (NumberHeld source place s.mem) line code held))
  goes None (TransferLine (Branch c a b (Skip m)) ∷ code) k words s ready knows stands going hold held =
      let line = TransferLine (Branch c a b (Skip m)) in
      let more = All-tail (NumberHeld source place s.mem) line code held in
      let l = begins k line code s (code_label source.labels (label m) >>= λ i. Ok (branch c a b i)) refl ready stands going in
      let named = code_named source.labels (label m) (branch c a b) l.statement l.is in
      let moves = branch_step machine s c a b named.0 (has_word words s a hold knows.0) (has_word words s b hold knows.1) in
      chosen (holds c (reg (words_in s.regs) a) (reg (words_in s.regs) b)) c a b m k named.0 code s refl
      (λ link. ap (λ x. holds c x (reg (as_words link s.regs) b)) (seen link s.regs a (has_word words s a hold knows.0))
      ∙ ap (λ y. holds c (reg (words_in s.regs) a) y) (seen link s.regs b (has_word words s b hold knows.1)))
      (l.moves ∙ ap (λ o. execute machine (Some o) s) (sym named.2) ∙ moves)
      (goes (Some m) code (k + 1) words (to named.0 0 0 s) (ready_on k line code ready) knows.3 named.1 going hold more)
      (goes None code (k + 1) words (to (suc s.index) 0 0 s) (ready_on k line code ready) knows.2 (omega (arith, stands)) going hold more)
  goes None (Mark target ∷ code) k words s ready knows stands going hold held =
      still None None k (Mark target) code s (λ c. refl)
      (goes None code (k + 0) (also words 0) s (ready_on k (Mark target) code ready) knows.2 (omega (arith, stands)) going
      (λ n h. has_word words s n hold h) (All-tail (NumberHeld source place s.mem) (Mark target) code held))
  goes None (Told unit file line ∷ code) k words s ready knows stands going hold held =
      still None None k (Told unit file line) code s (λ c. refl)
      (goes None code (k + 0) (also words 0) s (ready_on k (Told unit file line) code ready) knows.2 (omega (arith, stands)) going
      (λ n h. has_word words s n hold h) (All-tail (NumberHeld source place s.mem) (Told unit file line) code held))
  goes None (line ∷ code) k words s ready knows stands going hold held = absurd (false≢true (and_parts (is_alone line) (list_all is_alone code) ready.alone).0)

  marked_one : (k : ℕ) (line : Line) → ((n : ℕ) → line ≡ Mark (Skip n) → label_named source.labels (label n) ≡ Some (Code k)) → Marked k line
  marked_one k (Mark (Skip n)) h = h n refl
  marked_one k _ h = tt

  all_marked : (earlier code : List Line) → ((first rest : List Line) (n : ℕ) → code ≡ first ++ Mark (Skip n) ∷ rest
      → label_named source.labels (label n) ≡ Some (Code (count_by is_statement (earlier ++ first))))
      → (k : ℕ) → count_by is_statement earlier ≡ k → AllMarked k code
  all_marked earlier [] h k e = tt
  all_marked earlier (line ∷ code) h k e = (
    marked_one k line (λ n q. h [] code n (ap (λ l. l ∷ code) q)
        ∙ ap (λ ls. Some (Code (count_by is_statement ls))) (append-nil earlier)
        ∙ ap (λ i. Some (Code i)) e),
    all_marked (earlier ++ line ∷ []) code
        (λ first rest n q. h (line ∷ first) rest n (ap (λ ls. line ∷ ls) q)
        ∙ ap (λ ls. Some (Code (count_by is_statement ls))) (sym (append_assoc earlier (line ∷ []) first)))
        (k + statement_count line) (sum_by_push (λ l. cond (is_statement l) 1 0) earlier line ∙ ap (λ n. n + statement_count line) e),
  )

front_fits : (p : Program) (first more : List Line) → All (LineFits p) (first ++ more) → All (LineFits p) first
front_fits p [] more h = All-nil (LineFits p)
front_fits p (line ∷ first) more h =
    All-cons (LineFits p) line first (All-head (LineFits p) line (first ++ more) h) (front_fits p first more (All-tail (LineFits p) line (first ++ more) h))

shows : (link : ℕ → ℕ) (v : Value) → is_code v ≡ false → v ≡ Int (as_word link v)
shows link (Int word) h = refl
shows link (CodeValue i) h = absurd (cc)

-- what is the word of a place, whatever words places are, is the place
is_place : (v : Value) (i : ℕ) → ((link : ℕ → ℕ) → AreWords link → as_word link v ≡ link i) → v ≡ CodeValue i
is_place (Int w) i h =
    let zero = h (λ j. 0) (λ j. omega arith) in
    let one = h (λ j. 1) (λ j. omega arith) in
    absurd (omega (arith, zero, one))
is_place (CodeValue j) i h = ap CodeValue (found (h (λ k. one_if (eqb k i)) (λ k. small (eqb k i))))
  where
    one_if : Bool → ℕ
    one_if t = cond t 1 0

    small : (t : Bool) → one_if t < 2 ^ 32
    small true = omega arith
    small false = omega arith

    apart : one_if false ≡ one_if true → ⊥
    apart e = omega (arith, e)

    by_same : (t : Bool) → eqb j i ≡ t → one_if t ≡ one_if true → j ≡ i
    by_same true q e = grind (arith, nat_tests)
    by_same false q e = absurd (apart e)

    same : one_if (eqb i i) ≡ one_if true
    same = ap one_if (let q : eqb i i ≡ true = grind (arith, nat_tests) in q)

    found : one_if (eqb j i) ≡ one_if (eqb i i) → j ≡ i
    found e = by_same (eqb j i) refl (e ∙ same)

pub code_goes : (p : Program) (source : SourceValue) (before code after : List Line) → IsAt p source before code after → list_all is_alone code ≡ true
    → (place : Place) (bytes : List ℕ) (words last : ℕ → Bool) → Knows None words code last → (s : State) → ComesTo before s → HoldWords words s
    → All (NumberHeld source place s.mem) code → (bus : Bus) → Runs (program source place bytes) code last bus s
code_goes p source before code after at alone place bytes words last knows s comes hold held bus =
    let k = count_by is_statement before in
    let all : Rest source.labels p source.statements 0 (before ++ (code ++ after)) = record {
      own = source.statements;
      is = at.resolved;
      at = λ i. ap (slice_get source.statements) (let e : 0 + i ≡ i = omega arith in e);
    } in
    let here = past source.labels p source.statements 0 before (code ++ after) at.fits all in
    let g = goes p source place bytes after last bus None code k words s (record {
      fits = front_fits p code after here.1;
      rest = subst (λ n. Rest source.labels p source.statements n (code ++ after)) (let e : 0 + k ≡ k = omega arith in e) here.0;
      marked = all_marked p source place bytes after last bus before code at.marks k refl;
      alone = alone;
    }) knows comes.index comes.going hold held in
    record {
      steps = g.steps;
      few = g.few;
      after = g.after;
      runs = g.runs;
      index = g.index ∙ ap (λ n. n + count_by is_statement code) (sym comes.index);
      going = g.going;
      core = g.core;
      words = λ n h link l.
          shows link (value_in g.after.regs n) (g.words n h)
          ∙ ap Int (as_value link g.after.regs n ∙ ap (λ (c : Core). reg c.regs n) (g.core link l));
      places = λ n i h.
          is_place (value_in g.after.regs n) i
          (λ link l. as_value link g.after.regs n ∙ ap (λ (c : Core). reg c.regs n) (g.core link l) ∙ h link l);
      kept = g.kept;
      md = g.md;
      mem = g.mem;
      taken = g.taken;
    }

pub instructions_do : (bus : Bus) (plains : List Plain) (s : Core) → ran_lines bus (map PlainLine plains) s ≡ ran bus plains s
instructions_do bus [] s = refl
instructions_do bus (plain ∷ plains) s = instructions_do bus plains (act bus (instruction plain) 0 s.regs s)
