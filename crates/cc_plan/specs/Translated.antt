-- What the translation of an instruction may do to registers, as far as what is known of pointers depends on it.
use Rattle.std.specs.Prelude.{◌≡◌, ℕ, ◌-◌, ◌%◌, ◌^◌, ◌==◌, ◌&&◌, ◌||◌, Bool, true, false, nat_lt, if◌then◌else◌, bit_or, bit_and, List, [], ◌∷◌, Option, Some, None}
use Rattle.std.specs.List.{list_any}
use Rattle.cc_lines.specs.declared.instruction.Instruction.{Instruction}
use Rattle.cc_lines.specs.declared.instruction.Instruction.TheVariants as i
use Rattle.cc_lines.specs.declared.instruction.Long.TheVariants.{Product}
use Rattle.cc_lines.specs.declared.instruction.LinkFrom.TheVariants as to
use Rattle.cc_lines.specs.declared.instruction.Operation.{Operation}
use Rattle.cc_lines.specs.declared.instruction.Operation.TheVariants.{Add, Sub, Or}
use Rattle.cc_lines.specs.declared.instruction.Source.{Source}
use Rattle.cc_lines.specs.declared.instruction.Source.TheVariants as source
use Rattle.cc_lines.specs.declared.instruction.Width.{Width}
use Rattle.cc_lines.specs.declared.instruction.Width.TheVariants.{Left, Right}
use Rattle.cc_plan.specs.declared.effects.TheConstants.{HI}
use Rattle.cc_plan.specs.declared.knowledge.TheConstants.{STACK_WORDS, FRAME_WORDS}
use Rattle.cc_plan.specs.declared.plan.Place.{Place}
use Rattle.cc_plan.specs.declared.plan.Place.TheVariants.{Far}
use Rattle.cc_plan.specs.declared.plan.Plan.{Plan}
use Rattle.cc_plan.specs.Comparisons.{value_of}
use Rattle.cc_plan.specs.Places.{Words, sum, is_named, is_read, is_quotient, IsDivided}

-- functions keep r16 to r23 and r26 to r30
abbrev pub is_changed_by_calls : ℕ → Bool
is_changed_by_calls n = (nat_lt 0 n && nat_lt n 16) || n == 24 || n == 25 || n == 31

-- a register that an instruction writes
abbrev pub is_written : Instruction → ℕ → Bool
is_written (i.Compute op rd rs second) n = n == rd.0
is_written (i.Shift op rd rs by) n = n == rd.0
is_written (i.Move rd rs) n = n == rd.0
is_written (i.Number rd value) n = n == rd.0
is_written (i.Address rd base offset) n = n == rd.0
is_written (i.Load width rd base offset) n = n == rd.0
is_written (i.FromSpecial special rd) n = n == rd.0
is_written (i.Call to) n = is_changed_by_calls n
is_written _ n = false

abbrev pub is_partial : Width → Bool
is_partial Left = true
is_partial Right = true
is_partial _ = false

abbrev pub is_far : Option Place → Bool
is_far (Some (Far base bytes)) = true
is_far _ = false

-- the registers of quotients that a load or a store uses between its statements: more where it takes a part of a word up to its end or
-- from its start
abbrev pub used_by_access : Width → Option Place → List ℕ
used_by_access width place = if is_partial width then 22 ∷ 27 ∷ [] else if is_far place then 27 ∷ [] else []

-- the same of any instruction. A product leaves its high word only where that is read
abbrev pub used : Instruction → Plan → List ℕ
used (i.Load width rd base offset) plan = used_by_access width plan.place
used (i.Store width rs base offset) plan = used_by_access width plan.place
used (i.Long (Product signed) rs rt) plan = if bit_and plan.live (2 ^ HI) == 0 then 27 ∷ [] else 22 ∷ 27 ∷ []
used (i.Long op rs rt) plan = 27 ∷ []
used (i.Shift op rd rs (source.Register by)) plan = 27 ∷ []
used (i.Call to) plan = 22 ∷ 27 ∷ FRAME_WORDS ∷ []
used _ plan = []

abbrev pub is_used : Instruction → Plan → ℕ → Bool
is_used instruction plan n = list_any (λ r. r == n) (used instruction plan)

-- the word that an operation gives, where what is known goes on over it
abbrev pub IsComputed : Operation → ℕ → ℕ → ℕ → Type 0
IsComputed Add a b w = w ≡ sum a b
IsComputed Sub a b w = w ≡ sum a ((2 ^ 32 - b) % 2 ^ 32)
IsComputed Or a b w = w ≡ bit_or a b
IsComputed _ a b w = Unit {0}

-- the word that an instruction gives, with this address of its symbol: 0 where it names none, and none where it is not known
abbrev pub IsGiven : Words → Option ℕ → Instruction → ℕ → Type 0
IsGiven words address (i.Number rd n) w = w ≡ n
IsGiven words (Some a) (i.Address rd base offset) w = w ≡ sum (words base.0) (sum a offset)
IsGiven words address (i.Move rd rs) w = w ≡ words rs.0
IsGiven words address (i.Compute op rd rs second) w = IsComputed op (words rs.0) (value_of words second) w
IsGiven words address _ w = Unit {0}

-- the register that takes it
abbrev pub given_to : Instruction → Option ℕ
given_to (i.Number rd n) = Some rd.0
given_to (i.Address rd base offset) = Some rd.0
given_to (i.Move rd rs) = Some rd.0
given_to (i.Compute op rd rs second) = Some rd.0
given_to _ = None

-- an instruction reads registers that compiled code may read
abbrev pub is_source_read : Source → Bool
is_source_read (source.Register r) = is_read r.0
is_source_read (source.Number n) = true

abbrev pub reads_named : Instruction → Bool
reads_named (i.Address rd base offset) = is_read base.0
reads_named (i.Move rd rs) = is_read rs.0
reads_named (i.Compute op rd rs second) = is_read rs.0 && is_source_read second
reads_named (i.Load width rd base offset) = is_read base.0
reads_named (i.Store width rs base offset) = is_read base.0
reads_named (i.Jump (to.Register r)) = is_read r.0
reads_named (i.Call (to.Register r)) = is_read r.0
reads_named _ = true

-- registers before and after the translation of an instruction that goes on with the next item
pub record Goes (points : Bool) (address : Option ℕ) (instruction : Instruction) (plan : Plan) (before after : Words) : Type 0 where
  pub always : IsDivided points after
  pub kept : (n : ℕ) → is_named n ≡ true → is_written instruction n ≡ false → after n ≡ before n
  pub stack : is_written instruction 29 ≡ false → after STACK_WORDS ≡ before STACK_WORDS
  pub frame : points ≡ true → is_written instruction 30 ≡ false → after FRAME_WORDS ≡ before FRAME_WORDS
  pub quotients : (n : ℕ) → is_quotient points n ≡ true → is_used instruction plan n ≡ false → after n ≡ before n
  pub given : (n : ℕ) → given_to instruction ≡ Some n → is_named n ≡ true → IsGiven before address instruction (after n)
