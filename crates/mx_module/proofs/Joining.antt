-- The source of the modules of texts is what the texts join as.
use Rattle.std.proofs.Common.{◌≡◌, ℕ, ◌≤◌, List, length, map, Result, Ok, Err, sym, ap, ◌∙◌, subst, arith}
use Rattle.std.specs.Prelude.{All, IfOk, IfErr, Vec}
use Rattle.std.specs.Global.{Global}
use Rattle.std.proofs.lemmas.List.{length-map}
use Rattle.std.proofs.lemmas.List.Elements.{All-map}
use Rattle.mx_source.specs.SourceValue.{SourceValue}
use Rattle.mx_module.specs.declared.error.JoinError.{JoinError}
use Rattle.mx_module.specs.Modules.{ModuleValue, modules_of}
use Rattle.mx_module.specs.Joined.{Joins, JoinsModules, IsJoinRefusal, joined, join_fault, program, program_fault}
use Rattle.mx_module.specs.ModuleView.{IsProgram, IsShort, text_bytes}

pub is_program : (texts : List (Vec ℕ Global)) (ms : List ModuleValue) → ms ≡ modules_of (map text_bytes texts) → (length texts ≤ 16) × All IsShort texts
    → IsProgram ms
is_program texts ms e h = record {
  texts = map text_bytes texts;
  same = e;
  few = (let n : length (map text_bytes texts) ≡ length texts = length-map texts text_bytes in let k = h.0 in omega (arith, n, k));
  short = All-map (λ (text : List ℕ). length text ≤ 4194304) text_bytes texts h.1;
}

joins_one : (texts : List (List ℕ)) (ms : List ModuleValue) (s : SourceValue) → ms ≡ modules_of texts → JoinsModules ms s → Joins texts s
unfolding joined join_fault
joins_one texts ms s e h = record { faultless = sym (ap program_fault e) ∙ h.faultless; same = h.same ∙ ap program e; apart = h.apart }

pub joins_texts : (texts : List (List ℕ)) (ms : List ModuleValue) → ms ≡ modules_of texts → (result : Result SourceValue JoinError)
    → IfOk result (JoinsModules ms) → IfOk result (Joins texts)
joins_texts texts ms e (Ok s) h = joins_one texts ms s e h
joins_texts texts ms e (Err error) h = tt

pub refused_texts : (texts : List (List ℕ)) (ms : List ModuleValue) → ms ≡ modules_of texts → (result : Result SourceValue JoinError)
    → IfErr result (IsJoinRefusal (program_fault ms)) → IfErr result (IsJoinRefusal (join_fault texts))
unfolding join_fault
refused_texts texts ms e (Ok s) h = tt
refused_texts texts ms e (Err error) h = subst (λ f. IsJoinRefusal f error) (ap program_fault e) h
