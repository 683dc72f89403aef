-- What a program means: one statement after the other, with neither delay slots nor addresses of code.
use Rattle.std.specs.Prelude.{◌≡◌, ℕ, zero, suc, ◌-◌, ◌<◌, Bool, true, false, cond, eqb, leb, ◌&&◌, ◌||◌, List, [], ◌++◌, slice_get, slice_index_or, Option, Some, None, is_some, option_to_list}
use Rattle.mx_isa.specs.declared.inst.Op.{Op}
use Rattle.mx_isa.specs.declared.inst.Op.TheVariants.{Add}
use Rattle.mx_isa.specs.declared.inst.Cond.{Cond}
use Rattle.mx_isa.specs.declared.inst.Inst.{Inst}
use Rattle.mx_isa.specs.declared.inst.Inst.TheVariants.{Load, Store, Compute}
use Rattle.mx_isa.specs.declared.place.Place.{Place}
use Rattle.mx_isa.specs.Words.{Words}
use Rattle.mx_isa.specs.Arithmetic.{condition_holds}
use Rattle.mx_isa.specs.Effect.{Sent, change, offset_by, or_kept, sent}
use Rattle.mx_isa.specs.UserBus.{is_user, user_bus}
use Rattle.mx_isa.specs.Views.{sources, Access, access, address}
use Rattle.mx_source.specs.declared.statement.Value.{Value}
use Rattle.mx_source.specs.declared.statement.Value.TheVariants.{Int, Code}
use Rattle.mx_source.specs.declared.statement.Statement.{Statement}
use Rattle.mx_source.specs.declared.statement.Statement.TheVariants.{Plain, LaCode, Branch, Call, CallReg, JumpReg, Halt}
use Rattle.mx_source.specs.declared.statement.Why.{Why}
use Rattle.mx_source.specs.declared.statement.Why.TheVariants.{PastEnd, CodeOperand, LoadOutside, StoreOutside, CodeToConsole, JumpNotCode}
use Rattle.mx_source.specs.SourceValue.{SourceValue}
use Rattle.mx_source.specs.Values.{Values, value_in, put_value, write_value, is_code, word_in, words_in, passed_on}

-- what runs: the statements, where the program stands, and the bytes of its input, if it has input
pub record Program : Type 0 where
  pub statements : List Statement
  pub place : Place
  pub input : Option (List ℕ)

-- the bytes, where the source has an .input
abbrev pub given : Option ℕ → List ℕ → Option (List ℕ)
given None bytes = None
given (Some line) bytes = Some bytes

abbrev pub program : SourceValue → Place → List ℕ → Program
program source place bytes = record { statements = source.statements; place = place; input = given source.input bytes }

-- how a run stands
pub data Mark : Type 0 where
  Going : Mark
  Halted : Mark
  Stuck : (why : Why) → Mark

pub record State : Type 0 where
  pub index : ℕ
  pub regs : Values
  pub md : ℕ
  pub mem : Values
  pub taken : ℕ
  pub mark : Mark

-- these words from the first word of user data on, and 0 after them
abbrev pub start_words : Place → List Value → Values
start_words place words a = cond (leb place.user_data a) (slice_index_or words (a - place.user_data) (Int 0)) (Int 0)

-- at the start all is 0 but the data words of the source
abbrev pub start : SourceValue → Place → State
start source place = record {
  index = 0;
  regs = λ n. Int 0;
  md = 0;
  mem = start_words place source.user_data;
  taken = 0;
  mark = Going;
}

-- the state after a step, and the byte that it sent to the console
pub record Step : Type 0 where
  pub after : State
  pub byte : Option ℕ

abbrev pub silent : State → Step
silent s = record { after = s; byte = None }

abbrev pub stuck : Why → State → Step
stuck why s = silent (record s { mark = Stuck why })

-- add with second source r0 copies its first source
abbrev pub copies : Op → ℕ → Bool
copies Add b = eqb b 0
copies _ b = false

-- the registers that must hold words (0 for none): those that are read, but for what is copied and what is stored
abbrev pub operands : Inst → ℕ × ℕ
operands (Compute a dest b op) = cond (copies op b) (0, 0) (a, b)
operands (Store base value offset) = (base, 0)
operands i = sources i

abbrev pub any_code : Values → ℕ × ℕ → Bool
any_code r (a, b) = is_code (value_in r a) || is_code (value_in r b)

-- a load may be from user data, and from the input where there is one
abbrev pub can_load : Program → ℕ → Bool
can_load p a = is_user p.place a || (is_some p.input && eqb a p.place.input)

abbrev pub why_load : Program → ℕ → Option Why
why_load p a = cond (can_load p a) None (Some LoadOutside)

-- a store may be to the console, of a word, and to user data
abbrev pub why_store : Program → ℕ → Value → Option Why
why_store p a v = cond (eqb a p.place.console) (cond (is_code v) (Some CodeToConsole) None) (cond (is_user p.place a) None (Some StoreOutside))

-- why an access is stuck, if it is, from the registers as words, and the value that it would store
abbrev pub why_access : Program → Option Access → Words → Value → Option Why
why_access p None r v = None
why_access p (Some x) r v = cond x.stores (why_store p (address x r) v) (why_load p (address x r))

-- why an instruction is stuck, if it is
abbrev pub why_plain : Program → Inst → Values → Option Why
why_plain p i r = cond (any_code r (operands i)) (Some CodeOperand) (why_access p (access i) (words_in r) (value_in r (sources i).1))

-- the value that an instruction passes on: that of a copy, of a load from user data, of a store
abbrev pub passed : Place → Inst → Values → Values → Value
passed place (Compute a dest b op) r m = cond (copies op b) (value_in r a) (Int 0)
passed place (Load base dest offset) r m =
    let a = offset_by (words_in r) base offset in cond (is_user place a) (m a) (Int 0)
passed place (Store base value offset) r m = value_in r value
passed place _ r m = Int 0

abbrev pub store_value : Place → Option Sent → Value → Values → Values
store_value place None v m = m
store_value place (Some s) v m = cond (is_user place s.address) (put_value m s.address (passed_on v s.word)) m

-- an instruction that is not stuck: its effect on the words, and the value that it passes on
abbrev pub done : Program → Inst → State → Step
done p i s =
    let bus = user_bus p.place p.input in
    let c = change i 0 (words_in s.regs) s.md (bus.load (words_in s.mem) s.taken) in
    let v = passed p.place i s.regs s.mem in record {
      after = record {
        index = suc s.index;
        regs = write_value s.regs c.dest (passed_on v c.value);
        md = or_kept c.new_md s.md;
        mem = store_value p.place c.stores v s.mem;
        taken = cond c.takes (suc s.taken) s.taken;
        mark = s.mark;
      };
      byte = sent bus c.stores;
    }

abbrev pub unless_stuck : Option Why → Step → State → Step
unless_stuck None step s = step
unless_stuck (Some why) step s = stuck why s

-- an instruction
abbrev pub perform : Program → Inst → State → Step
perform p i s = unless_stuck (why_plain p i s.regs) (done p i s) s

-- to a place, with a value put into a register
abbrev pub goes : ℕ → ℕ → Value → State → Step
goes target dest v s = silent (record s { index = target; regs = write_value s.regs dest v })

-- to the place that a register holds, with the next place put into another register
abbrev pub jumps : Value → ℕ → State → Step
jumps (Int word) dest s = stuck JumpNotCode s
jumps (Code target) dest s = goes target dest (Code (suc s.index)) s

-- to a place, where the condition holds
abbrev pub branches : ℕ → ℕ → Cond → ℕ → State → Step
branches a b condition target s =
    cond (any_code s.regs (a, b)) (stuck CodeOperand s)
    (goes (cond (condition_holds condition (word_in (value_in s.regs a)) (word_in (value_in s.regs b))) target (suc s.index)) 0 (Int 0) s)

-- the statement at the index
abbrev pub execute : Program → Option Statement → State → Step
execute p None s = stuck PastEnd s
execute p (Some (Plain i)) s = perform p i s
execute p (Some (LaCode dest target)) s = goes (suc s.index) dest (Code target) s
execute p (Some (Branch a b condition target)) s = branches a b condition target s
execute p (Some (Call dest target)) s = goes target dest (Code (suc s.index)) s
execute p (Some (CallReg a dest)) s = jumps (value_in s.regs a) dest s
execute p (Some (JumpReg a)) s = jumps (value_in s.regs a) 0 s
execute p (Some Halt) s = silent (record s { mark = Halted })

abbrev pub if_going : Mark → Step → State → Step
if_going Going step s = step
if_going _ step s = silent s

-- one step; a run that halted or is stuck stays as it is
abbrev pub step : Program → State → Step
step p s = if_going s.mark (execute p (slice_get p.statements s.index) s) s

-- a state, and all that was sent to the console
pub record Run : Type 0 where
  pub state : State
  pub console : List ℕ

abbrev pub run_step : Program → Run → Run
run_step p r = record { state = (step p r.state).after; console = r.console ++ option_to_list (step p r.state).byte }

abbrev pub run_for : Program → ℕ → Run → Run
run_for p zero r = r
run_for p (suc n) r = run_for p n (run_step p r)

-- the meaning of a source at a place, with the bytes of its input, after m steps
abbrev pub meaning : SourceValue → Place → List ℕ → ℕ → Run
meaning source place bytes m = run_for (program source place bytes) m (record { state = start source place; console = [] })

abbrev pub is_stuck : Mark → Bool
is_stuck (Stuck why) = true
is_stuck _ = false

-- step n is the first that halts
pub record HaltsIn (source : SourceValue) (place : Place) (bytes : List ℕ) (n : ℕ) : Type 0 where
  pub halted : (meaning source place bytes n).state.mark ≡ Halted
  pub first : (m : ℕ) → m < n → (meaning source place bytes m).state.mark ≡ Going
