-- Where memory is not the program's: the translation has words of its own there, which no load and no store reaches.
use Rattle.std.specs.Prelude.{ℕ, ◌+◌, Bool, not, ◌&&◌, nat_le, nat_lt, if◌then◌else◌, fold, Option, Some, None, option_map, is_some, min, max, slice_get}
use Rattle.cc_rules.specs.declared.numbers.TheConstants.{FIRST_BYTE, LIMIT}
use Rattle.cc_program.specs.declared.item.Object.{Object}
use Rattle.cc_program.specs.declared.program.Program.{Program}
use Rattle.cc_program.specs.declared.symbols.Meaning.{Meaning}
use Rattle.cc_program.specs.declared.symbols.Meaning.TheVariants as means
use Rattle.cc_program.specs.Programs.{meaning_of}
use Rattle.cc_meaning.specs.declared.layout.Extent.{Extent}
use Rattle.cc_meaning.specs.declared.layout.Layout.{Layout}

-- the item that a symbol of code names: the first one of a function, or that of a label
abbrev pub item_meant : Program → Meaning → Option ℕ
item_meant p (means.Function number) = option_map (λ f. f.first) (slice_get p.functions.items number)
item_meant p (means.Place item function) = Some item
item_meant p _ = None

abbrev pub item_named : Program → ℕ → Option ℕ
item_named p symbol = item_meant p (meaning_of p.symbols.list.items symbol)

-- a descriptor is a word that holds the code address of a function or a label, whose address as a number is that of this word
abbrev pub is_descriptor : Program → Object → Bool
is_descriptor p o = o.kept && is_some (item_named p o.symbol)

-- bytes, and those of a descriptor
abbrev pub extended : Program → Extent → Object → Extent
extended p e o =
    if is_descriptor p o then record { from = min e.from o.standing.address; to = max e.to (o.standing.address + 4) } else e

-- descriptors are next to each other
abbrev pub descriptors_of : Program → Extent
descriptors_of p = fold (extended p) (record { from = LIMIT; to = 0 }) p.objects.items

-- the data of the program end before `behind`, and what the translation adds to them ends before `end`
abbrev pub layout_of : Program → ℕ → ℕ → Layout
layout_of p behind end = record { descriptors = descriptors_of p; behind = behind; end = end }

abbrev pub is_between : ℕ → ℕ → ℕ → Bool
is_between from to a = nat_le from a && nat_lt a to

-- a byte that loads and stores reach
abbrev pub is_memory : Layout → ℕ → Bool
is_memory l a =
    is_between FIRST_BYTE LIMIT a && not (is_between l.descriptors.from l.descriptors.to a) && not (is_between l.behind l.end a)
