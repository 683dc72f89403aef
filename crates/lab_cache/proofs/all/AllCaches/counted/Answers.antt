use Rattle.std.proofs.Common.{◌≡◌, ◌++◌, length, take, drop, subst, ◌∙◌, ap, arith}
use Rattle.std.specs.List.{flat_map}
use Rattle.lab_cache.specs.All.{noted_in, Ends, Each}
use Rattle.lab_cache.proofs.Going.{take_front}
use Rattle.lab_cache.proofs.Groups.{all_end, ended_counts}
use Rattle.lab_cache.proofs.all.AllCaches.counted.Goals as goal

pub returns : goal.returns
returns c = λ gs past h.
    let number = c.end_all.ensures.number in
    let all : c.args.self.now.groups.len ≡ length c.end_all.new.groups = let len = c.as_mut_slice.ensures.len in omega (arith, number, len) in
    c.in_ok-rows.ensures
    ∙ ap (λ xs. flat_map noted_in xs) (c.as_slice.ensures.value
    ∙ ap (λ n. take n (c.end_all.new.groups ++ drop (length c.end_all.new.groups) c.args.self.now.groups.items)) all
    ∙ take_front c.end_all.new.groups (drop (length c.end_all.new.groups) c.args.self.now.groups.items))
    ∙ ended_counts c.end_all.new.groups gs past (all_end c.args.self.now.groups.items c.end_all.new.groups gs past
    (subst (λ xs. Each Ends xs c.end_all.new.groups) c.as_mut_slice.ensures.value c.end_all.ensures) h)
