use Rattle.std.proofs.Common.{◌≡◌, ◌++◌, drop}
use Rattle.std.specs.List.{flat_map}
use Rattle.mx_link.specs.Parts.{sites_of}
use Rattle.lab_certify.specs.Printed.{site_line}
use Rattle.lab_certify.proofs.printing.push_sites.Given as goal

abbrev pub invariant-loop-k : goal.invariant-loop-k
invariant-loop-k l =
    let all = sites_of l.layout in
    l.text.items ++ flat_map (site_line all) (drop l.k all) ≡ l.initial.text.items ++ flat_map (site_line all) all
