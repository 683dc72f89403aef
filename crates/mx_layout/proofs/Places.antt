-- The places that the ends of blocks name.
use Rattle.std.proofs.Common.{◌≡◌, ℕ, zero, suc, ◌+◌, ◌-◌, ◌||◌, true, cond, eqb, length, Option, Some, None, refl, sym, ap, ◌∙◌, subst}
use Rattle.std.specs.Option.{option_map}
use Rattle.std.specs.Prelude.{slice_get}
use Rattle.std.proofs.lemmas.Option.{none-some, same_Some, slice_get_within, get_or_from_slice_get}
use Rattle.mx_source.specs.declared.statement.Statement.{Statement}
use Rattle.mx_source.specs.declared.statement.Statement.TheVariants.{Plain, LaCode, Branch, Call, CallReg, JumpReg, Halt}
use Rattle.mx_source.specs.SourceValue.{SourceValue, IsSource}
use Rattle.mx_source.specs.Labels.{is_labelled, IsPlace}
use Rattle.mx_source.specs.Statements.{StatementFits}
use Rattle.mx_blocks.specs.declared.block.Block.{Block}
use Rattle.mx_blocks.specs.declared.block.End.TheVariants.{Branches, Calls}
use Rattle.mx_blocks.specs.Leaders.{IsBlockOf, ends_there, gap, is_leader, size, end_of as statement_end}

-- a labelled statement is a leader
pub labelled_leads : (source : SourceValue) (t : ℕ) → is_labelled source.labels t ≡ true → is_leader source t ≡ true
labelled_leads source zero e = refl
labelled_leads source (suc i) e =
    ap (λ c. eqb (cond (c || (ends_there (slice_get source.statements i) || eqb (gap (is_labelled source.labels) source.statements i) 63)) 0
    (suc (gap (is_labelled source.labels) source.statements i))) 0) e

branch_place : (P : ℕ → Type 0) (s : Statement) (t : ℕ) → StatementFits P s → statement_end s ≡ Branches t → P t
branch_place P (Branch a b c target) t h e = let same : target ≡ t = cc in subst P same h
branch_place P (Plain inst) t h e = absurd (cc)
branch_place P (LaCode dest target) t h e = absurd (cc)
branch_place P (Call dest target) t h e = absurd (cc)
branch_place P (CallReg a dest) t h e = absurd (cc)
branch_place P (JumpReg a) t h e = absurd (cc)
branch_place P Halt t h e = absurd (cc)

call_place : (P : ℕ → Type 0) (s : Statement) (t : ℕ) → StatementFits P s → statement_end s ≡ Calls t → P t
call_place P (Call dest target) t h e = let same : target ≡ t = cc in subst P same h
call_place P (Plain inst) t h e = absurd (cc)
call_place P (LaCode dest target) t h e = absurd (cc)
call_place P (Branch a b c target) t h e = absurd (cc)
call_place P (CallReg a dest) t h e = absurd (cc)
call_place P (JumpReg a) t h e = absurd (cc)
call_place P Halt t h e = absurd (cc)

-- the last statement of a block
pub record Last (source : SourceValue) (b : Block) : Type 0 where
  pub statement : Statement
  pub is : slice_get source.statements (b.first + size b - 1) ≡ Some statement
  pub fits : StatementFits (IsPlace source.labels (length source.statements)) statement
  pub ends : statement_end statement ≡ b.end

pub last_of : (source : SourceValue) (b : Block) → IsSource source → IsBlockOf source b → Last source b
last_of source b h k = at_last (slice_get source.statements (b.first + size b - 1)) refl
  where
    at_last : (o : Option Statement) → slice_get source.statements (b.first + size b - 1) ≡ o → Last source b
    at_last None f = absurd (none-some b.end (ap (option_map statement_end) (sym f) ∙ k.end))
    at_last (Some s) f =
        let i = b.first + size b - 1 in
        record {
          statement = s;
          is = f;
          fits =
              subst (λ (x : Statement). StatementFits (IsPlace source.labels (length source.statements)) x) (get_or_from_slice_get source.statements i s s f)
              (h.statements_fit i s (slice_get_within source.statements i s f));
          ends = same_Some (statement_end s) b.end (ap (option_map statement_end) (sym f) ∙ k.end);
        }

-- the target of a block's branch or call is a place of the source
pub branch_target_place :
    (source : SourceValue) (b : Block) (t : ℕ) → IsSource source → IsBlockOf source b → b.end ≡ Branches t
    → IsPlace source.labels (length source.statements) t
branch_target_place source b t h k e =
    let l = last_of source b h k in branch_place (IsPlace source.labels (length source.statements)) l.statement t l.fits (l.ends ∙ e)

pub call_target_place :
    (source : SourceValue) (b : Block) (t : ℕ) → IsSource source → IsBlockOf source b → b.end ≡ Calls t
    → IsPlace source.labels (length source.statements) t
call_target_place source b t h k e =
    let l = last_of source b h k in call_place (IsPlace source.labels (length source.statements)) l.statement t l.fits (l.ends ∙ e)
