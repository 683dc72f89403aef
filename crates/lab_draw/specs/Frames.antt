-- What a drawing records.
use Rattle.std.specs.Prelude.{◌≡◌, ℕ, suc, ◌+◌, ◌<◌, ◌≤◌, ◌⊎◌, Bool, true, false, cond, nat_lt, List, [], ◌∷◌, ◌++◌, Option, Some, None, length, slice_index}
use Rattle.mx_isa.specs.declared.board.TheConstants.{DATA_END}
use Rattle.mx_isa.specs.Words.{Words, reg}
use Rattle.mx_turn.specs.Program.{Program, state_after, answer_after}
use Rattle.mx_turn.specs.Run.{is_requested, bits, console_after}
use Rattle.lab_draw.specs.declared.frame.Frame.{Frame}
use Rattle.lab_draw.specs.declared.drawing.Drawing.{Drawing}

-- the data word at an address; 0 where the address is none of data
abbrev pub data_word : Words → ℕ → ℕ
data_word words address = cond (nat_lt address DATA_END) (words address) 0

-- the cycle after these request bits, in which a request comes or not, and the machine after it
pub record IsFrameOf (p : Program) (h : List Bool) (request : Bool) (f : Frame) : Type 0 where
  pub requested : f.requested ≡ request
  pub cycled : f.cycled ≡ answer_after p h request
  pub turn : f.turn ≡ (state_after p h).counts.fetches
  pub shown : f.shown ≡ (state_after p (h ++ request ∷ [])).shown
  pub counts : f.counts ≡ (state_after p (h ++ request ∷ [])).counts
  pub registers : (k : ℕ) → k < 32 → slice_index f.registers k ≡ reg (state_after p (h ++ request ∷ [])).core.regs k
  pub md : f.md ≡ (state_after p (h ++ request ∷ [])).core.md
  pub inputs : f.inputs ≡ (state_after p (h ++ request ∷ [])).core.taken
  pub address : f.address ≡ (state_after p h).shown.result
  pub word : f.word ≡ data_word (state_after p (h ++ request ∷ [])).core.mem f.address

-- cycle n of a run that had not ended before it
pub record IsFrame (p : Program) (requests : List ℕ) (n : ℕ) (f : Frame) : Type 0 where
  pub going : (state_after p (bits requests n)).halted ≡ false
  pub frame : IsFrameOf p (bits requests n) (is_requested requests n) f

-- one cycle after the other, from cycle n on
abbrev pub AreFrames : Program → List ℕ → ℕ → List Frame → Type 0
AreFrames p requests n [] = Unit {0}
AreFrames p requests n (f ∷ fs) = IsFrame p requests n f × AreFrames p requests (suc n) fs

-- the run halts with its n-th cycle
pub record HaltsAfter (p : Program) (requests : List ℕ) (n : ℕ) : Type 0 where
  pub before : (k : ℕ) → n ≡ suc k → (state_after p (bits requests k)).halted ≡ false
  pub halted : (state_after p (bits requests n)).halted ≡ true

-- how many cycles a run has that halts within a budget, and none where it does not
abbrev pub IsEnd : Program → List ℕ → ℕ → Option ℕ → Type 0
IsEnd p requests budget None = (state_after p (bits requests budget)).halted ≡ false
IsEnd p requests budget (Some n) = (n ≤ budget) × HaltsAfter p requests n

-- the cycles up to the end, or so many
abbrev pub cycles_to : Option ℕ → ℕ → ℕ
cycles_to None n = n
cycles_to (Some end) n = end

-- the cycles of a run from one on, so many or up to its end, what the console got before them, the data words before them, and the end
-- of the run within its budget
pub record IsDrawing (p : Program) (requests : List ℕ) (from count budget : ℕ) (d : Drawing) : Type 0 where
  pub console : d.console.items ≡ console_after p (bits requests from)
  pub words : (k : ℕ) → k < DATA_END → slice_index d.words.items k ≡ (state_after p (bits requests from)).core.mem k
  pub frames : AreFrames p requests from d.frames.items
  pub within : length d.frames.items ≤ count
  pub whole : (length d.frames.items ≡ count) ⊎ ((state_after p (bits requests (from + length d.frames.items))).halted ≡ true)
  pub end : IsEnd p requests budget d.end
