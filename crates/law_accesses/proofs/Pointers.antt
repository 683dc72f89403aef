-- Calls and jumps by a word of memory.
use Rattle.std.proofs.Common.{◌≡◌, ◌≤◌, ◌<◌, ℕ, ◌/◌, ◌%◌, Bool, true, false, ◌==◌, [], ◌∷◌, ◌++◌, Option, Ok, sym, ap, arith, subst}
use Rattle.std.specs.Prelude.{if◌then◌else◌, Err}
use Rattle.std.proofs.lemmas.List.{append_assoc}
use Rattle.mx_isa.specs.Effect.{Core, Bus}
use Rattle.cc_emit.specs.declared.line.Line.{Line}
use Rattle.cc_emit.specs.declared.line.Line.TheVariants.{Transfer as TransferLine}
use Rattle.cc_emit.specs.declared.line.Transfer.TheVariants.{CallReg, JumpReg}
use Rattle.cc_plan.specs.declared.plan.Place.{Place}
use Rattle.cc_meaning.specs.declared.value.Value.{Value}
use Rattle.cc_meaning.specs.declared.value.Value.TheVariants.{Number, Code, Partial}
use Rattle.cc_meaning.specs.declared.value.Why.TheVariants.{NotCode}
use Rattle.cc_meaning.specs.Instructions.{pointed}
use Rattle.cc_meaning.specs.States.{State, memory_word}
use Rattle.cc_meaning.specs.Values.{code_of}
use Rattle.cc_operations.specs.Operations.{lines}
use Rattle.cc_accesses.specs.Accesses.{called_at, jumped_at}
use Rattle.cc_accesses.specs.Loads.{word_loaded}
use Rattle.cc_accesses.specs.Places.{reached, word_load}
use Rattle.law_operations.specs.Runs.{ran, ran_lines, Leaves}
use Rattle.law_accesses.specs.Memories.{IsData}
use Rattle.law_accesses.specs.Pointers.{Pointer, ShowsCode}
use Rattle.law_accesses.proofs.Reaching.{Distinct, IsInData, place_reached, reached_then}
use Rattle.law_accesses.proofs.WholeWords.{fetched_data, after_reached}

-- ---- what the semantics goes to

code_is : (v : Value) (item : ℕ) → code_of v ≡ Ok item → v ≡ Code item
code_is (Number n) item e = absurd (cc)
code_is (Code i) item e = let q : i ≡ item = cc in ap Code q
code_is (Partial bytes) item e = absurd (cc)

pointed_by : (t : Bool) (v : Value) (item : ℕ) → (if t then code_of v else Err NotCode) ≡ Ok item → v ≡ Code item
pointed_by true v item e = code_is v item e
pointed_by false v item e = absurd (cc)

pointed_is : (a : State) (address item : ℕ) → pointed a address ≡ Ok item → memory_word a address ≡ Code item
pointed_is a address item e = pointed_by (address % 4 == 0) (memory_word a address) item e

-- ---- the word in r26

in_data_by : (address : ℕ) → IsData (address / 4) → IsInData address
in_data_by address d =
    let l : 256 ≤ address / 4 = d.0 in
    let k : address / 4 < 65536 = d.1 in
    (let p : 1024 ≤ address = omega arith in p, let q : address < 262144 = omega arith in q)

target_leaves : (first : Option ℕ) (place : Place) (address item : ℕ) (codes : ℕ → ℕ) (a : State) (bus : Bus) (s : Core)
    → Pointer bus first place address s → ShowsCode codes a address s.mem → pointed a address ≡ Ok item
    → Leaves 26 (Number (codes item)) (reached first place).first s (ran_lines bus (word_loaded first place 26 false).lines s)
target_leaves first place address item codes a bus s x shown e =
    let n = (reached first place).first in
    let other : Distinct 26 1 = omega arith in
    let g = place_reached first place bus s x.words x.known x.reachable in
    let t = ran_lines bus (reached first place).lines s in
    let c = fetched_data bus place n 26 address s t x.keeps x.holds x.at (in_data_by address x.within) g in
    let there = after_reached place n 26 (Number (s.mem (address / 4))) s t _ other g c in
    subst (Leaves 26 (Number (codes item)) n s) (sym (reached_then first place (lines (word_load place 26 ∷ [])) bus s))
    (subst (λ w. Leaves 26 (Number w) n s (ran bus (word_load place 26 ∷ []) t)) (shown item (pointed_is a address item e)) there)

-- the last line
ends_with : (first : Option ℕ) (place : Place) (line : Line)
    → (reached first place).lines ++ (lines (word_load place 26 ∷ []) ++ line ∷ []) ≡ (word_loaded first place 26 false).lines ++ line ∷ []
ends_with first place line = sym (append_assoc (reached first place).lines (lines (word_load place 26 ∷ [])) (line ∷ []))

pub call : (first : Option ℕ) (place : Place) (address item : ℕ) (codes : ℕ → ℕ) (a : State) (bus : Bus) (s : Core)
    → Pointer bus first place address s → ShowsCode codes a address s.mem → pointed a address ≡ Ok item
    → ((called_at first place).lines ≡ (word_loaded first place 26 false).lines ++ TransferLine (CallReg 26 31) ∷ [])
    × Leaves 26 (Number (codes item)) (called_at first place).first s (ran_lines bus (word_loaded first place 26 false).lines s)
call first place address item codes a bus s x shown e =
    (ends_with first place (TransferLine (CallReg 26 31)), target_leaves first place address item codes a bus s x shown e)

pub jump : (first : Option ℕ) (place : Place) (address item : ℕ) (codes : ℕ → ℕ) (a : State) (bus : Bus) (s : Core)
    → Pointer bus first place address s → ShowsCode codes a address s.mem → pointed a address ≡ Ok item
    → ((jumped_at first place).lines ≡ (word_loaded first place 26 false).lines ++ TransferLine (JumpReg 26) ∷ [])
    × Leaves 26 (Number (codes item)) (jumped_at first place).first s (ran_lines bus (word_loaded first place 26 false).lines s)
jump first place address item codes a bus s x shown e =
    (ends_with first place (TransferLine (JumpReg 26)), target_leaves first place address item codes a bus s x shown e)
