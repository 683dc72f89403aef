-- The words of a valid plan, one after another, do what the block's instructions do in source order: all of them where it falls
-- through (`falls_run`), the body and then the terminator else (`ends_run`). The terminator decides in its place what it decides
-- behind the body (`decides_there`). `all_ran` takes what a stretch of words did (`Did`) to a run of instructions (`Ran`).
use Rattle.std.proofs.Common.{◌≡◌, ℕ, zero, suc, ◌+◌, ◌-◌, ◌<◌, ◌≤◌, Bool, true, false, cond, not, ◌&&◌, List, [], ◌∷◌, ◌++◌, length, take, Option, refl, sym, ap, ◌∙◌, subst, arith}
use Rattle.std.proofs.Math.Seq.{take-suc}
use Rattle.std.proofs.lemmas.Bool.{cond-false, cond-true}
use Rattle.std.proofs.lemmas.List.{length-take-le, get_or-take, take_all, length-map, map-append}
use Rattle.mx_isa.specs.declared.inst.Inst.{Inst}
use Rattle.mx_isa.specs.declared.inst.Inst.TheVariants.{Halt}
use Rattle.mx_isa.specs.declared.place.Place.{Place}
use Rattle.mx_isa.specs.Effect.{Decision, decides}
use Rattle.mx_isa.specs.Views.{reads, access, is_transfer}
use Rattle.mx_delay.specs.Clean.{is_lawful, loads_to}
use Rattle.mx_depend.specs.Graphs.{inst_at}
use Rattle.mx_blocks.specs.declared.block.Item.{Item}
use Rattle.mx_blocks.specs.declared.block.Item.TheVariants.{Op, Nop}
use Rattle.mx_validate.specs.Padded.{insts_of, items_of, falls, body_count}
use Rattle.law_order.specs.Running.{Ran, run_one, run_source}
use Rattle.law_order.specs.Parts.{AreBelow}
use Rattle.law_order.proofs.Order.{same_length, keeps_effect}
use Rattle.law_order.proofs.Split.{body_within, run_source_append, decides_alike, body_stays}
use Rattle.law_order.proofs.Words.{item_inst, words, run_words, run_along, AllStay, run_along_stays, run_along_once, words_stay, AreApart, last_loaded, words_apart, words_end}
use Rattle.law_link.proofs.Going.{Did, IsPlain, ArePlain, idle_plain, did, did_all}
use Rattle.law_link.proofs.Setting.{StepSetting, PlannedBlock}

pub apart_left : (l : ℕ) (is js : List Inst) → AreApart l (is ++ js) → AreApart l is
apart_left l [] js h = tt
apart_left l (i ∷ is) js h = (h.0, apart_left (loads_to i) is js h.1)

pub plain_at : (insts : List Inst) (k : ℕ) → ArePlain insts → k < length insts → IsPlain (inst_at insts k)
plain_at [] k h l = absurd (omega arith)
plain_at (i ∷ insts) zero h l = h.0
plain_at (i ∷ insts) (suc k) h l = plain_at insts k h.1 (omega arith)

pub plain_words :
    (insts : List Inst) (n : ℕ) (items : List Item) → AreBelow n items → ((k : ℕ) → k < n → IsPlain (inst_at insts k))
    → ArePlain (words insts items)
plain_words insts n [] b h = tt
plain_words insts n (Op k ∷ items) b h = (h k b.0, plain_words insts n items b.1 h)
plain_words insts n (Nop ∷ items) b h = (idle_plain, plain_words insts n items b h)

and_not : (a b c : Bool) → c ≡ false → (a && (b && not c)) ≡ (a && b)
and_not a b c e = grind arith

-- what the words so far did, as a run of instructions
abbrev pub ran_of : Did → Decision → Ran
ran_of d l = record { core = d.core; bytes = d.console; clean = d.clean; leads = l }

module _ (machine : StepSetting) where
  open machine use {place as p, input}

  one_ran :
      (a : ℕ) (i : Inst) (d : Did) (l : Decision) → reads i d.loaded ≡ false
      → ran_of (did machine a i d) (run_one p input a i (ran_of d l)).leads ≡ run_one p input a i (ran_of d l)
  one_ran a i d l h = λ k. record {
    core = (did machine a i d).core;
    bytes = (did machine a i d).console;
    clean = and_not d.clean (is_lawful p input (access i) d.core.regs) (reads i d.loaded) h k;
    leads = cond (is_transfer i) (decides i a d.core.regs) l;
  }

  pub all_ran :
      (a : ℕ) (insts : List Inst) (d : Did) (l : Decision) → AreApart d.loaded insts
      → ran_of (did_all machine a insts d) (run_along p input a insts (ran_of d l)).leads ≡ run_along p input a insts (ran_of d l)
  all_ran a [] d l h = refl
  all_ran a (i ∷ insts) d l h =
      subst (λ (r : Ran). ran_of (did_all machine (a + 1) insts (did machine a i d)) (run_along p input (a + 1) insts r).leads
      ≡ run_along p input (a + 1) insts r)
      (one_ran a i d l h.0)
      (all_ran (a + 1) insts (did machine a i d) (run_one p input a i (ran_of d l)).leads h.1)

  pub all_loaded : (a : ℕ) (insts : List Inst) (d : Did) → (did_all machine a insts d).loaded ≡ last_loaded d.loaded insts
  all_loaded a [] d = refl
  all_loaded a (i ∷ insts) d = all_loaded (a + 1) insts (did machine a i d)

module _ (input : Option (List ℕ)) (planned : PlannedBlock input) where
  open planned use {block, plan, insts, laid, parts, some}

  abbrev pub body : ℕ
  body = body_count block

  -- the instructions of the body
  abbrev pub bodies : List Inst
  bodies = take body insts

  abbrev pub pre : List Inst
  pre = words insts parts.front

  -- the terminator, if there is one
  abbrev pub last : Inst
  last = inst_at insts body

  pub count : length insts ≡ length (insts_of block)
  count = same_length insts (insts_of block) laid.filled

  pub bodies_length : length bodies ≡ body
  bodies_length = let n = count in let w = body_within block in length-take-le body insts (omega arith)

  pub pre_length : length pre ≡ length parts.front
  pre_length = length-map parts.front (item_inst insts)

  pub body_falls : falls block.end ≡ true → insts ≡ bodies
  body_falls f =
      let is : body ≡ length (insts_of block) = cond-true (falls block.end) (length (insts_of block)) (length (insts_of block) - 1) f in
      let n = count in
      let all : length insts ≤ body = omega arith in
      sym (take_all body insts all)

  pub size_ends : falls block.end ≡ false → length (insts_of block) ≡ suc body
  size_ends f =
      let is : body ≡ length (insts_of block) - 1 = cond-false (falls block.end) (length (insts_of block)) (length (insts_of block) - 1) f in
      omega arith

  pub body_ends : falls block.end ≡ false → insts ≡ bodies ++ last ∷ []
  body_ends f =
      let is = size_ends f in
      let n = count in
      let within : body < length insts = omega arith in
      let all : length insts ≤ suc body = omega arith in
      sym (take_all (suc body) insts all) ∙ take-suc insts body Halt within

  pub plain_body : ArePlain bodies → (k : ℕ) → k < body → IsPlain (inst_at insts k)
  plain_body h k l =
      let n = bodies_length in
      subst IsPlain (get_or-take body insts k Halt l) (plain_at bodies k h (omega arith))

  pub plain_pre : ArePlain bodies → ArePlain pre
  plain_pre h = plain_words insts body parts.front parts.body (plain_body h)

  stay_words : (items : List Item) → AreBelow body items → AllStay (words insts items)
  stay_words items b = words_stay insts body items b (λ k l. body_stays block plan insts input laid parts k l)

  -- the words of the plan, one after another from an address on, do what the instructions do in source order
  pub falls_run :
      (p : Place) (a at : ℕ) (s : Ran) → falls block.end ≡ true → parts.back ≡ []
      → run_along p input a (words insts (items_of plan)) s ≡ run_source p input at bodies s
  falls_run p a at s f e =
      let all : items_of plan ≡ parts.front = parts.whole ∙ ap (λ l. parts.front ++ l) e ∙ append_nothing parts.front in
      ap (λ l. run_along p input a (words insts l) s) all
      ∙ run_along_stays p input a at pre s (stay_words parts.front parts.body)
      ∙ ap (λ l. run_source p input at (words insts l) s) (sym all)
      ∙ run_words p input at insts (items_of plan) s
      ∙ keeps_effect block plan insts p input at s laid
      ∙ ap (λ l. run_source p input at l s) (body_falls f)
    where
      append_nothing : (l : List Item) → l ++ [] ≡ l
      append_nothing [] = refl
      append_nothing (x ∷ l) = ap (λ t. x ∷ t) (append_nothing l)

  pub words_are : (rest : List Item) → parts.back ≡ Op body ∷ rest → words insts (items_of plan) ≡ pre ++ last ∷ words insts rest
  words_are rest e = ap (words insts) (parts.whole ∙ ap (λ l. parts.front ++ l) e) ∙ map-append (item_inst insts) parts.front (Op body ∷ rest)

  pub ends_run : (p : Place) (a : ℕ) (s : Ran) (rest : List Item) → falls block.end ≡ false → parts.back ≡ Op body ∷ rest → AreBelow body rest
      → run_along p input a (words insts (items_of plan)) s ≡ run_one p input (a + length pre) last (run_source p input (a + length pre) bodies s)
  ends_run p a s rest f e b =
      let at = a + length pre in
      ap (λ l. run_along p input a l s) (words_are rest e)
      ∙ run_along_once p input a at pre last (words insts rest) s refl (stay_words parts.front parts.body) (stay_words rest b)
      ∙ ap (λ l. run_source p input at l s) (sym (words_are rest e))
      ∙ run_words p input at insts (items_of plan) s
      ∙ keeps_effect block plan insts p input at s laid
      ∙ ap (λ l. run_source p input at l s) (body_ends f)
      ∙ run_source_append p input at bodies (last ∷ []) s

  -- the terminator decides in its place what it decides behind the body
  pub decides_there :
      (p : Place) (a : ℕ) (s : Ran) → decides last (a + length pre) (run_along p input a pre s).core.regs
      ≡ decides last (a + length pre) (run_source p input (a + length pre) bodies s).core.regs
  decides_there p a s =
      let at = a + length pre in
      ap (λ (r : Ran). decides last at r.core.regs)
      (run_along_stays p input a at pre s (stay_words parts.front parts.body)
      ∙ run_words p input at insts parts.front s)
      ∙ decides_alike block plan insts p input at s parts laid

  pub apart_all : AreApart 0 (words insts (items_of plan))
  apart_all = words_apart block plan insts input laid

  pub apart_pre : AreApart 0 pre
  apart_pre =
      apart_left 0 pre (words insts parts.back) (subst (AreApart 0)
      (ap (words insts) parts.whole ∙ map-append (item_inst insts) parts.front parts.back) apart_all)

  pub end_loaded : last_loaded 0 (words insts (items_of plan)) ≡ 0
  end_loaded = words_end block plan insts input laid
