use Rattle.std.proofs.Common.{◌≡◌, ◌∷◌, ◌++◌, length, take, drop, subst, sym, ◌∙◌, ap, arith}
use Rattle.lab_cache.specs.All.{AllHold, Fetches, Each}
use Rattle.lab_cache.proofs.Going.{take_front}
use Rattle.lab_cache.proofs.Groups.{all_fetch}
use Rattle.lab_cache.proofs.all.AllCaches.fetch.Goals as goal

pub returns : goal.returns
returns c = λ gs past h.
    let number = c.fetch_all.ensures.number in
    let all : c.args.self.now.groups.len ≡ length c.fetch_all.new.groups = let len = c.as_mut_slice.ensures.len in omega (arith, number, len) in
    subst (λ ys. AllHold ys gs (c.args.address ∷ past))
    (sym (ap (λ n. take n (c.fetch_all.new.groups ++ drop (length c.fetch_all.new.groups) c.args.self.now.groups.items)) all
    ∙ take_front c.fetch_all.new.groups (drop (length c.fetch_all.new.groups) c.args.self.now.groups.items)))
    (all_fetch c.args.self.now.groups.items c.fetch_all.new.groups gs past c.args.address
    (subst (λ xs. Each (Fetches c.args.address) xs c.fetch_all.new.groups) c.as_mut_slice.ensures.value c.fetch_all.ensures) h)
