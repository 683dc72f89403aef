-- Where names are alike, so are the texts of instructions.
use Rattle.std.proofs.Common.{◌≡◌, ℕ, ◌-◌, ◌^◌, ◌<◌, Bool, true, false, cond, ◌&&◌, ◌==◌, [], ◌∷◌, ◌++◌, Option, Some, None, ℤ, pos, negsuc, refl, ap, ◌∙◌, arith, codes}
use Rattle.std.specs.Fmt.{digits}
use Rattle.std.proofs.lemmas.Bool.Decides.{nat_tests}
use Rattle.mx_isa.specs.declared.inst.Cond.{Cond}
use Rattle.mx_isa.specs.Fields.{InstFits, IsSignedField}
use Rattle.mx_isa.specs.declared.inst.Inst.{Inst}
use Rattle.mx_isa.specs.declared.inst.Inst.TheVariants.{Load, Store, Branch, Compute, Addi, MoveFrom, MoveTo, Jspci, Jpc, Jpcrs, Halt}
use Rattle.mx_source.specs.Printed.{register, immediate, spelled, condition_text}
use Rattle.lab_words.specs.Naming.{Naming, NameAlike, aimed}
use Rattle.lab_words.specs.Texts.{or_number, or_else, place_text, target, data_label, is_zero, register_jump_text, jump_text, made_label, sum_text, squash_text, instruction_text}

-- with an aim they are alike too
pub aimed_alike : (aim : Option ℕ) (m n : Naming) → NameAlike m n → NameAlike (aimed aim m) (aimed aim n)
aimed_alike None m n h = h
aimed_alike (Some at) m n h = record { code = λ a low. ap (λ o. cond (a == at) o None) (h.code a low); user_data = h.user_data }

module _ (m n : Naming) (alike : NameAlike m n) where
  place_alike : (a : ℕ) → a < 2 ^ 32 → place_text m a ≡ place_text n a
  place_alike a h =
      ap (λ o. or_else o [] (or_else (m.code (a - 1)) (codes "+1") (or_else (m.code (a - 2)) (codes "+2") (codes "0x" ++ digits 16 false a)))) (alike.code a h)
      ∙ ap (λ o. or_else (n.code a) [] (or_else o (codes "+1") (or_else (m.code (a - 2)) (codes "+2") (codes "0x" ++ digits 16 false a))))
      (alike.code (a - 1) (omega arith))
      ∙ ap (λ o. or_else (n.code a) [] (or_else (n.code (a - 1)) (codes "+1") (or_else o (codes "+2") (codes "0x" ++ digits 16 false a))))
      (alike.code (a - 2) (omega arith))

  jump_alike : (a dest : ℕ) (z : ℤ) → jump_text m a dest z ≡ jump_text n a dest z
  jump_alike a dest z =
      ap (λ t. cond (is_zero z) (register_jump_text a dest)
      (cond (a == 0) (spelled (codes "call") (t ∷ register dest ∷ [])) (spelled (codes "jspci") (register a ∷ immediate z ∷ register dest ∷ []))))
      (place_alike (target 0 z) (omega arith))

  branch_alike : (address a b : ℕ) (c : Cond) (s : Bool) (by : ℤ)
      → spelled (condition_text c ++ squash_text s) (register a ∷ register b ∷ place_text m (target address by) ∷ [])
      ≡ spelled (condition_text c ++ squash_text s) (register a ∷ register b ∷ place_text n (target address by) ∷ [])
  branch_alike address a b c s by =
      ap (λ t. spelled (condition_text c ++ squash_text s) (register a ∷ register b ∷ t ∷ [])) (place_alike (target address by) (omega arith))

module _ (m n : Naming) (alike : NameAlike m n) where
  data_alike : (z : ℤ) → IsSignedField 16 z → data_label m z ≡ data_label n z
  data_alike (pos a) h = alike.user_data a (omega arith)
  data_alike (negsuc a) h = refl

  made_by : (at a : ℕ) (z : ℤ) (b : Bool) → (a == 0 && at == target 0 z) ≡ b → cond b (m.code at) None ≡ cond b (n.code at) None
  made_by at a z true t =
      let same : at ≡ target 0 z = grind (arith, nat_tests) in
      alike.code at (omega (arith, same))
  made_by at a z false t = refl

  made_alike : (aim : Option ℕ) (a : ℕ) (z : ℤ) → made_label m aim a z ≡ made_label n aim a z
  made_alike None a z = refl
  made_alike (Some at) a z = made_by at a z (a == 0 && at == target 0 z) refl

  pub text_alike : (aim : Option ℕ) (address : ℕ) (i : Inst) → InstFits i → instruction_text m aim address i ≡ instruction_text n aim address i
  text_alike aim address (Load base d z) f =
      ap (λ o. spelled (codes "ld") ((or_number o z ++ codes "[" ++ register base ++ codes "]") ∷ register d ∷ [])) (data_alike z f)
  text_alike aim address (Store base v z) f =
      ap (λ o. spelled (codes "st") ((or_number o z ++ codes "[" ++ register base ++ codes "]") ∷ register v ∷ [])) (data_alike z f)
  text_alike aim address (Branch a b c s by) f = branch_alike (aimed aim m) (aimed aim n) (aimed_alike aim m n alike) address a b c s by
  text_alike aim address (Compute a d b op) f = refl
  text_alike aim address (Addi a d z) f = ap (λ o. sum_text o a d z) (made_alike aim a z)
  text_alike aim address (MoveFrom d s) f = refl
  text_alike aim address (MoveTo a s) f = refl
  text_alike aim address (Jspci a d z) f = jump_alike (aimed aim m) (aimed aim n) (aimed_alike aim m n alike) a d z
  text_alike aim address Jpc f = refl
  text_alike aim address Jpcrs f = refl
  text_alike aim address Halt f = refl
