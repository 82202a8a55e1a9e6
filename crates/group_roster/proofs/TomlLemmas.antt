-- Tables and arrays of TOML, as the code goes over them.
use Rattle.std.proofs.Common.{◌≡◌, ℕ, ◌+◌, ◌<◌, ◌≤◌, Bool, true, false, not, ◌||◌, List, [], ◌∷◌, ◌++◌, length, map, drop, get_or, Option, Some, None, Result, Ok, Err, String, Global, BTreeMap, string_bytes, Bor, refl, sym, ap, ◌∙◌, arith}
use Rattle.std.specs.Prelude.{bytes_eq, nat_le, ◌&&◌, option_and_then, if◌then◌else◌}
use Rattle.std.proofs.lemmas.List.{append_assoc, append-nil, drop_more, drop_all, length-append, length-map}
use Rattle.std.specs.List.{list_any}
use Rattle.std.specs.Map.{keys_of}
use Rattle.toml.specs.Data.{Data, Items, no_items, item, Members, no_members, member}
use Rattle.toml.specs.View.{view, members_view, items_of, items_view}
use Rattle.toml.specs.declared.value.Value.{Value}
use Rattle.std.specs.Str.{IsUtf8, is_utf8}
use Rattle.std.proofs.lemmas.Str.{IsUtf8-from_is_utf8, is_utf8-from_IsUtf8}
use Rattle.toml.specs.Parse.{parse_document}
use Rattle.wire_core.specs.Reading.{◌>>=◌}
use Rattle.group_roster.specs.Toml.{document_in, has_key_beside, list_of, if_a_group, keys_from, key_of_entry, value_or}

-- whether one of the keys is none of the names
abbrev pub any_beside : List (List ℕ) → List (String Global) → Bool
any_beside names keys = list_any (λ key. not (list_any (λ name. bytes_eq (string_bytes key) name) names)) keys

pub beside_keys : (names : List (List ℕ)) (es : List (String Global × Value))
    → has_key_beside names (members_view es) ≡ any_beside names (keys_of es)
beside_keys names [] = refl
beside_keys names (e ∷ es) = ap (λ (b : Bool). not (list_any (λ name. bytes_eq (string_bytes e.0) name) names) || b) (beside_keys names es)

pub any_named : (key : List ℕ) (names : List (Bor (List ℕ))) → list_any (λ name. bytes_eq key name.now) names ≡ list_any
    (λ name. bytes_eq key name) (map (λ name. name.now) names)
any_named key [] = refl
any_named key (name ∷ names) = ap (λ (b : Bool). bytes_eq key name.now || b) (any_named key names)

-- the items of an array are the views of its values
pub list_of-items : (vs : List Data) → list_of (items_of vs) ≡ vs
list_of-items [] = refl
list_of-items (v ∷ vs) = ap (λ (xs : List Data). v ∷ xs) (list_of-items vs)

pub beside-found : (names : List (Bor (List ℕ))) (table : BTreeMap (String Global) Value) (keys rest : List (String Global))
    (key : String Global) (text : List ℕ)
    → any_beside (map (λ name. name.now) names) keys ≡ any_beside (map (λ name. name.now) names) (keys_of table.entries)
    → keys ≡ key ∷ rest → text ≡ string_bytes key → list_any (λ name. bytes_eq text name.now) names ≡ false
    → true ≡ has_key_beside (map (λ name. name.now) names) (members_view table.entries)
beside-found names table keys rest key text so_far split is not_among =
    sym (beside_keys (map (λ name. name.now) names) table.entries
    ∙ sym so_far ∙ ap (any_beside (map (λ name. name.now) names)) split
    ∙ ap (λ (b : Bool). not b || any_beside (map (λ name. name.now) names) rest)
    (sym (any_named (string_bytes key) names) ∙ ap (λ (t : List ℕ). list_any (λ name. bytes_eq t name.now) names) (sym is) ∙ not_among))

pub beside-next : (names : List (Bor (List ℕ))) (keys rest : List (String Global)) (key : String Global) (text : List ℕ) (all : Bool)
    → any_beside (map (λ name. name.now) names) keys ≡ all
    → keys ≡ key ∷ rest → text ≡ string_bytes key → list_any (λ name. bytes_eq text name.now) names ≡ true
    → any_beside (map (λ name. name.now) names) rest ≡ all
beside-next names keys rest key text all so_far split is among =
    ap (λ (b : Bool). not b || any_beside (map (λ name. name.now) names) rest)
    (sym among ∙ ap (λ (t : List ℕ). list_any (λ name. bytes_eq t name.now) names) is ∙ any_named (string_bytes key) names)
    ∙ sym (ap (any_beside (map (λ name. name.now) names)) split) ∙ so_far

pub beside-none : (names : List (Bor (List ℕ))) (table : BTreeMap (String Global) Value) (keys : List (String Global))
    → any_beside (map (λ name. name.now) names) keys ≡ any_beside (map (λ name. name.now) names) (keys_of table.entries)
    → keys ≡ [] → false ≡ has_key_beside (map (λ name. name.now) names) (members_view table.entries)
beside-none names table keys so_far none =
    sym (beside_keys (map (λ name. name.now) names) table.entries ∙ sym so_far ∙ ap (any_beside (map (λ name. name.now) names)) none)

pub length-list_of : (vs : List Value) → length (list_of (items_view vs)) ≡ length vs
length-list_of vs = ap length (list_of-items (map view vs)) ∙ length-map vs view

in_a_group : (vs : List Value)
    → (nat_le 2 (length vs) && nat_le (length vs) 8) ≡ (nat_le 2 (length (list_of (items_view vs))) && nat_le
    (length (list_of (items_view vs))) 8)
in_a_group vs = ap (λ (k : ℕ). nat_le 2 k && nat_le k 8) (sym (length-list_of vs))

pub group-some : (vs : List Value) (found : Option Items) → Some (items_view vs) ≡ found
    → (nat_le 2 (length vs) && nat_le (length vs) 8) ≡ true → Some (list_of (items_view vs)) ≡ option_and_then if_a_group found
group-some vs found found-is holds =
    sym (ap (λ (o : Option Items). option_and_then if_a_group o) (sym found-is)
    ∙ ap (λ (b : Bool). if b then Some (list_of (items_view vs)) else None) (sym (in_a_group vs) ∙ holds))

pub group-none : (vs : List Value) (found : Option Items) → Some (items_view vs) ≡ found
    → (nat_le 2 (length vs) && nat_le (length vs) 8) ≡ false → None ≡ option_and_then if_a_group found
group-none vs found found-is holds =
    sym (ap (λ (o : Option Items). option_and_then if_a_group o) (sym found-is)
    ∙ ap (λ (b : Bool). if b then Some (list_of (items_view vs)) else None) (sym (in_a_group vs) ∙ holds))

-- ---- documents

pub document-ok : (bytes : List ℕ) (top : Members) → IsUtf8 bytes → parse_document bytes ≡ Some top
    → value_or {F = ℕ × ℕ} (0, 9) (document_in bytes) ≡ Ok top
unfolding document_in
document-ok bytes top text parsed = rw (is_utf8-from_IsUtf8 bytes text, parsed) refl

refused-if : (is_text : Bool) (parsed : Option Members) → (is_text ≡ true → parsed ≡ None) → (if is_text then parsed else None) ≡ None
refused-if true parsed h = h refl
refused-if false parsed h = refl

pub document-err : (bytes : List ℕ) → (IsUtf8 bytes → parse_document bytes ≡ None)
    → value_or {F = ℕ × ℕ} (0, 9) (document_in bytes) ≡ Err (0, 9)
unfolding document_in
document-err bytes h =
    ap (value_or {F = ℕ × ℕ} (0, 9)) (refused-if (is_utf8 bytes) (parse_document bytes) (λ e. h (IsUtf8-from_is_utf8 bytes e)))

-- ---- the keys of the entries

-- keys, and then those that are read
abbrev pub with_keys : List (List ℕ) → Result (List (List ℕ)) (ℕ × ℕ) → Result (List (List ℕ)) (ℕ × ℕ)
with_keys front (Ok keys) = Ok (front ++ keys)
with_keys front (Err fault) = Err fault

joined : (front : List (List ℕ)) (key : List ℕ) (read : Result (List (List ℕ)) (ℕ × ℕ))
    → with_keys (front ++ key ∷ []) read ≡ with_keys front (read >>= λ keys. Ok (key ∷ keys))
joined front key (Ok keys) = ap {B = Result (List (List ℕ)) (ℕ × ℕ)} (λ (xs : List (List ℕ)). Ok xs) (append_assoc front (key ∷ []) keys)
joined front key (Err fault) = refl

pub keys-none : (front : List (List ℕ)) (number : ℕ) (entry : Data) (rest : List Data) (all : Result (List (List ℕ)) (ℕ × ℕ))
    → key_of_entry entry ≡ None → with_keys front (keys_from number (entry ∷ rest)) ≡ all → all ≡ Err (number, 13)
unfolding keys_from
keys-none front number entry rest all none so_far = sym so_far ∙ rw none refl

pub keys-some : (front : List (List ℕ)) (number : ℕ) (entry : Data) (rest : List Data) (key : List ℕ) (all : Result (List (List ℕ)) (ℕ × ℕ))
    → key_of_entry entry ≡ Some key → with_keys front (keys_from number (entry ∷ rest)) ≡ all
    → with_keys (front ++ key ∷ []) (keys_from (number + 1) rest) ≡ all
unfolding keys_from
keys-some front number entry rest key all some so_far = joined front key (keys_from (number + 1) rest) ∙ rw some at so_far

pub keys-done : (front : List (List ℕ)) (number : ℕ) (all : Result (List (List ℕ)) (ℕ × ℕ))
    → with_keys front (keys_from number []) ≡ all → all ≡ Ok front
unfolding keys_from
keys-done front number all so_far = sym so_far ∙ ap {B = Result (List (List ℕ)) (ℕ × ℕ)} (λ (xs : List (List ℕ)). Ok xs) (append-nil front)

-- the entries as the code holds them, which are those of the array
pub entry-next : (vs held : List Value) (k : ℕ) (v : Value) → held ≡ vs → k < length held → v ≡ get_or held k v
    → map view (drop k vs) ≡ view v ∷ map view (drop (k + 1) vs)
entry-next vs held k v same below is =
    ap (λ (xs : List Value). map view (drop k xs)) (sym same)
    ∙ ap (map view) (drop_more held k v below ∙ ap (λ (x : Value). x ∷ drop (k + 1) held) (sym is))
    ∙ ap (λ (xs : List Value). view v ∷ map view (drop (k + 1) xs)) same

pub entries-end : (vs held : List Value) (k : ℕ) → held ≡ vs → length held ≤ k → map view (drop k vs) ≡ []
entries-end vs held k same past = ap (λ (xs : List Value). map view (drop k xs)) (sym same) ∙ ap (map view) (drop_all k held past)

pub length-more : (keys : List (List ℕ)) (key : List ℕ) (k : ℕ) → length keys ≡ k → length (keys ++ key ∷ []) ≡ k + 1
length-more keys key k is = length-append keys (key ∷ []) ∙ ap (λ (n : ℕ). n + 1) is
