-- The answer of `join` of modules without faults is the text of a source that means what they mean together.
use Rattle.std.proofs.Common.{◌≡◌, ℕ, suc, ◌+◌, ◌≤◌, ◌++◌, List, [], ◌∷◌, length, Option, refl, sym, ap, ◌∙◌, subst, append_assoc, length-append, append-nil, arith}
use Rattle.std.specs.Prelude.{All}
use Rattle.std.proofs.lemmas.List.Elements.{All-nil, All-cons}
use Rattle.mx_isa.specs.declared.board.TheConstants.{DATA_BASE}
use Rattle.mx_source.specs.Printed.{printed}
use Rattle.cmd_answer.specs.declared.FileKind.TheVariants.{Module}
use Rattle.cmd_answer.specs.declared.Status.{Status}
use Rattle.cmd_answer.specs.declared.Status.TheVariants.{Done}
use Rattle.cmd_answer.specs.Answer.{Answer, prints}
use Rattle.cmd_answer.specs.Protocol.{resolved}
use Rattle.mx_io.specs.Shelves.{Told}
use Rattle.cmd_answer.specs.Delivery.{Delivered}
use Rattle.mx_asm.specs.Texts.{source_of}
use Rattle.mx_module.specs.Joined.{joined}
use Rattle.law_modules.specs.JoinedTexts.{AreJoined}
use Rattle.law_modules.proofs.Printable.{joined_reads}
use Rattle.law_modules.proofs.Meant.{same_means}
use Rattle.cmd_table.specs.Commands.{Command}
use Rattle.cmd_source.specs.Protocols.{Layouts}
use Rattle.mx_command.specs.Protocols.{join_answer, printed_unless, modules_protocol, protocol_of}
use Rattle.mx_command.specs.Accepted.{Held, Holds}
use Rattle.mx_command.specs.Within.{IsWithin}
use Rattle.mx_command.specs.Joins.{HoldModules, AcceptedModules, WhereShort, JoinHeadline}
use Rattle.mx_command.proofs.Headline.{read_is}

module _ (held : Held) where
  -- what the files hold determines the answer
  modules_are : (names texts found : List (List ℕ)) (number : ℕ) → number ≡ length found + 1 → HoldModules held number names texts
      → resolved (modules_protocol names found) held ≡ join_answer (found ++ texts)
  modules_are [] [] found number e h = ap join_answer (sym (append-nil found))
  modules_are [] (text ∷ texts) found number e h = absurd h
  modules_are (name ∷ names) [] found number e h = absurd h
  modules_are (name ∷ names) (text ∷ texts) found number e h =
      let there : Holds held (Module (length found + 1)) name text = subst (λ n. Holds held (Module n) name text) e h.0 in
      let more : length (found ++ text ∷ []) ≡ length found + 1 = length-append found (text ∷ []) in
      read_is held (Module (length found + 1)) name text (λ t. modules_protocol names (found ++ t ∷ [])) there
      ∙ modules_are names texts (found ++ text ∷ []) (number + 1) (omega (arith, e, more)) h.1
      ∙ ap join_answer (append_assoc found (text ∷ []) texts)

  as_many : (names texts : List (List ℕ)) (number : ℕ) → HoldModules held number names texts → length texts ≡ length names
  as_many [] [] number h = refl
  as_many [] (text ∷ texts) number h = absurd h
  as_many (name ∷ names) [] number h = absurd h
  as_many (name ∷ names) (text ∷ texts) number h = ap suc (as_many names texts (number + 1) h.1)

  all_short : (names texts : List (List ℕ)) (number : ℕ) → HoldModules held number names texts → All (λ text. length text ≤ 4194304) texts
  all_short [] [] number h = All-nil (λ (text : List ℕ). length text ≤ 4194304)
  all_short [] (text ∷ texts) number h = absurd h
  all_short (name ∷ names) [] number h = absurd h
  all_short (name ∷ names) (text ∷ texts) number h =
      All-cons (λ (text : List ℕ). length text ≤ 4194304) text texts h.0.within (all_short names texts (number + 1) h.1)

module _ (asked : Option Command) (held : Held) (a : AcceptedModules asked held) (within : IsWithin asked) where
  sixteen : length a.names ≤ 16
  sixteen = subst IsWithin a.asks within

  answer_is : (layout_of : Layouts) → resolved (protocol_of layout_of asked) held ≡ prints Done (printed (joined a.texts))
  answer_is layout_of =
      ap (λ o. resolved (protocol_of layout_of o) held) a.asks
      ∙ modules_are held a.names a.texts [] 1 refl a.are_texts
      ∙ ap (λ f. printed_unless f (joined a.texts)) a.faultless

  are_joined : WhereShort asked held a (AreJoined a.texts)
  are_joined short = record {
    few = (let n = as_many held a.names a.texts 1 a.are_texts in let k = sixteen in omega (arith, n, k));
    short = all_short held a.names a.texts 1 a.are_texts;
    faultless = a.faultless;
    names = short;
  }

  text_is_told : (result : Status) (told told' : Told) (before after : List ℕ)
      → Delivered (prints Done (printed (joined a.texts))) result told told' before after
      → JoinHeadline asked held a result before after
  text_is_told result told told' before after d = record {
    status = d.status;
    output = d.output;
    reads_back = λ short. joined_reads a.texts (are_joined short);
    means = λ short place bytes n. same_means (joined a.texts) (source_of DATA_BASE (printed (joined a.texts)))
        (joined_reads a.texts (are_joined short)).same place bytes n;
  }

  -- where the answer was delivered, it is that text
  pub delivered_is_joined : (layout_of : Layouts) (result : Status) (told told' : Told) (before after : List ℕ)
      → Delivered (resolved (protocol_of layout_of asked) held) result told told' before after
      → JoinHeadline asked held a result before after
  delivered_is_joined layout_of result told told' before after d = text_is_told result told told' before after
      (subst (λ (x : Answer). Delivered x result told told' before after) (answer_is layout_of) d)
