-- What is proposed by one relation is proposed by each that follows from it.
use Rattle.std.proofs.Common.{ℕ, List, [], ◌∷◌, inl, inr, ⊎_elim, Result, Ok, Err}
use Rattle.std.specs.Prelude.{IfOk, IfErr}
use Rattle.mx_isa.specs.declared.Place.{Place}
use Rattle.mx_source.specs.SourceValue.{SourceValue}
use Rattle.mx_blocks.specs.declared.Block.{Block}
use Rattle.mx_blocks.specs.declared.Plan.{Plan}
use Rattle.mx_squash.specs.Copies.{Site}
use Rattle.mx_layout.specs.Kept.{AreKept}
use Rattle.mx_layout.specs.declared.LinkError.{LinkError}
use Rattle.mx_layout.specs.declared.LinkError.TheVariants.{Displacement, Memory}
use Rattle.mx_layout.specs.Overlong.{Overlong, IsOverlong, IsRefusal}
use Rattle.mx_layout.specs.declared.Layout.{Layout}
use Rattle.mx_link.specs.Parts.{sites_of}

module _ (P Q : Block → Plan → Type 0) (follows : (block : Block) (plan : Plan) → P block plan → Q block plan) where
  kept_follows : (n : ℕ) (sites : List Site) (proposals : List Plan) → AreKept P n sites proposals → AreKept Q n sites proposals
  kept_follows n [] [] k = k
  kept_follows n [] (p ∷ ps) k = absurd k
  kept_follows n (s ∷ ss) [] k = absurd k
  kept_follows n (s ∷ ss) (p ∷ ps) k = (
    follows s.block p k.0,
    ⊎_elim
        (λ valid. inl (valid.0, valid.1, kept_follows n ss ps valid.2))
        (λ broken. inr (broken.0, broken.1, broken.2, broken.3, kept_follows broken.2 ss ps broken.4))
        k.1,
  )

  too_long_follows : (source : SourceValue) (place : Place) (found : Overlong) → IsOverlong P source place found → IsOverlong Q source place found
  too_long_follows source place found t = record {
    sites = t.sites;
    proposals = t.proposals;
    rejected = t.rejected;
    layout = t.layout;
    kept = kept_follows t.rejected t.sites t.proposals t.kept;
    is = t.is;
  }

  pub refusal_follows : (source : SourceValue) (place : Place) (error : LinkError) → IsRefusal P source place error → IsRefusal Q source place error
  refusal_follows source place (Displacement line from to) r = too_long_follows source place _ r
  refusal_follows source place Memory r = r

  pub if_refused : {A : Type 0} (source : SourceValue) (place : Place) (r : Result A LinkError) → IfErr r (IsRefusal P source place)
      → IfErr r (IsRefusal Q source place)
  if_refused source place (Ok l) h = tt
  if_refused source place (Err e) h = refusal_follows source place e h

  pub if_kept : (r : Result Layout LinkError) → IfOk r (λ l. AreKept P l.rejected (sites_of l) l.proposals.items)
      → IfOk r (λ l. AreKept Q l.rejected (sites_of l) l.proposals.items)
  if_kept (Ok l) h = kept_follows l.rejected (sites_of l) l.proposals.items h
  if_kept (Err e) h = tt
