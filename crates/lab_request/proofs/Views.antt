-- What was read: lists and objects.
use Rattle.std.proofs.Common.{◌≡◌, ◌<◌, ◌≤◌, ◌∙◌, false, List, [], ◌∷◌, map, length, refl, sym, ap, Option, Some}
use Rattle.std.specs.Prelude.{◌&&◌, option_map, nat_le, String, string_bytes}
use Rattle.std.specs.List.{flat_map}
use Rattle.std.specs.Map.{keys_of as map_keys}
use Rattle.std.specs.declared.alloc.Global.{Global}
use Rattle.std.proofs.lemmas.List.{length-map}
use Rattle.std.proofs.lemmas.Bool.{le-leb, lt-leb}
use Rattle.serde_json.specs.Data.{Data, Items}
use Rattle.serde_json.specs.View.{items_of, items_view, members_view, view}
use Rattle.serde_json.specs.declared.value.Value.{Value}
use Rattle.lab_request.specs.Fields.{listed, keys_of, are_cycles, is_requests}
use Rattle.lab_request.specs.Requests.{cycle_line}

-- the values of a list that was read
pub listed_items : (ds : List Data) → listed (items_of ds) ≡ ds
listed_items [] = refl
listed_items (d ∷ ds) = ap (λ rest. d ∷ rest) (listed_items ds)

-- the keys of an object that was read
pub keys_of_members : (es : List (String Global × Value)) → keys_of (members_view es) ≡ map string_bytes (map_keys es)
keys_of_members [] = refl
keys_of_members (e ∷ es) = ap (λ rest. string_bytes e.0 ∷ rest) (keys_of_members es)

-- whether a list that was read is one of requests
requests_in : (vs : List Value) (o : Option Items) → Some (items_view vs) ≡ o
    → is_requests (option_map listed o) ≡ (nat_le (length vs) 65536 && are_cycles 0 (map view vs))
requests_in vs o e =
    ap (λ x. is_requests (option_map listed x)) (sym e) ∙ ap (λ x. is_requests (Some x)) (listed_items (map view vs))
    ∙ ap (λ n. nat_le n 65536 && are_cycles 0 (map view vs)) (length-map vs view)

pub few_requests : (vs : List Value) (o : Option Items) → Some (items_view vs) ≡ o → length vs ≤ 65536
    → are_cycles 0 (map view vs) ≡ is_requests (option_map listed o)
few_requests vs o e few = sym (requests_in vs o e ∙ ap (λ b. b && are_cycles 0 (map view vs)) (le-leb (length vs) 65536 few))

pub many_requests : (vs : List Value) (o : Option Items) → Some (items_view vs) ≡ o → 65536 < length vs
    → nat_le (length vs) 65536 ≡ is_requests (option_map listed o)
many_requests vs o e many =
    let more : nat_le (length vs) 65536 ≡ false = lt-leb (length vs) 65536 many in
    more ∙ sym (requests_in vs o e ∙ ap (λ b. b && are_cycles 0 (map view vs)) more)

-- the lines of a list that was read
pub lines_in : (vs : List Value) (o : Option Items) → Some (items_view vs) ≡ o
    → option_map (λ items. flat_map cycle_line (listed items)) o ≡ Some (flat_map cycle_line (map view vs))
lines_in vs o e = ap (option_map (λ items. flat_map cycle_line (listed items))) (sym e)
    ∙ ap (λ x. Some (flat_map cycle_line x)) (listed_items (map view vs))
