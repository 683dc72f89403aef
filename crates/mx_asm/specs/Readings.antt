-- What one line adds to what was read of a text before it.
use Rattle.std.specs.Prelude.{◌≡◌, ℕ, ◌+◌, ◌≤◌, List, length, Option, Some, None, Ok}
use Rattle.mx_isa.specs.declared.board.TheConstants.{MAX_STATEMENTS}
use Rattle.mx_lines.specs.declared.fault.Fault.{Fault}
use Rattle.mx_lines.specs.declared.fault.AsmError.{AsmError}
use Rattle.mx_lines.specs.Instructions.{Labels}
use Rattle.mx_lines.specs.Fitting.{LabelsFit}
use Rattle.mx_lines.specs.Words.{words_of}
use Rattle.mx_asm.specs.declared.assembler.Reading.{Reading}
use Rattle.mx_asm.specs.Directives.{Effect, effect_of}
use Rattle.mx_asm.specs.Effects.{EffectFits, Adds}
use Rattle.mx_asm.specs.Faults.{words_fault, is_line}
use Rattle.mx_asm.specs.Listings.{IsRefusal}
use Rattle.mx_asm.specs.Positions.{line_words, statement_words, after}

-- the fault of the next line, if this is it and `repeated` the first that defines a label again
abbrev pub next_fault : Labels → ℕ → Option ℕ → List ℕ → Reading → Option Fault
next_fault labels end repeated line r = words_fault labels end r.position (is_line repeated r.number) (length line) (words_of line)

-- the next line has no fault, and goes behind what was read
pub record Reads (labels : Labels) (end : ℕ) (repeated : Option ℕ) (line : List ℕ) (old new : Reading) : Type 0 where
  pub does : Effect
  pub faultless : next_fault labels end repeated line old ≡ None
  pub effect : effect_of labels old.position.section (statement_words (line_words line)) ≡ Ok does
  pub fits : (count : ℕ) → LabelsFit count labels → EffectFits labels count does
  pub adds : Adds old.listing new.listing old.number does
  pub position : new.position ≡ after old.position (line_words line)
  pub few : new.position.index ≤ MAX_STATEMENTS
  pub within : new.position.address ≤ end
  pub number : new.number ≡ old.number + 1

-- the error refuses each text whose first fault is that of the next line
abbrev pub Refuses : Labels → ℕ → Option ℕ → List ℕ → Reading → AsmError → Type 0
Refuses labels end repeated line r error =
    (found : Option (ℕ × Fault)) → ((fault : Fault) → next_fault labels end repeated line r ≡ Some fault → found ≡ Some (r.number, fault))
    → IsRefusal found error
