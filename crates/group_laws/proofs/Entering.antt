-- Each member of a script can be honest in its round.
use Rattle.std.proofs.Common.{◌≡◌, ℕ, zero, suc, ◌+◌, ◌-◌, ◌≤◌, true, List, [], ◌∷◌, ◌++◌, Some, length, map, ap, ◌∙◌, refl, arith, rules, length-append}
use Rattle.std.specs.Prelude.{Result, Ok, option_and_then, option_map, slice_index_or}
use Rattle.std.specs.List.{AllByRecursion, slice_get}
use Rattle.std.specs.Result.{result_ok}
use Rattle.std.proofs.lemmas.List.{length-take-le}
use Rattle.std.proofs.lemmas.List.FromFn.{length-map-range_with_len}
use Rattle.std.proofs.lemmas.Option.{slice_get-map}
use Rattle.wire_core.specs.Hash.{hash_of}
use Rattle.wire_core.specs.declared.tag.Tag.TheVariants.{LmsIdentifier, ScriptKey}
use Rattle.wire_core.proofs.ByteLists.{hash_bytes}
use Rattle.phase_message.specs.Stages.{is_member}
use Rattle.phase_message.proofs.SlotLists.{member-in}
use Rattle.lm_ots.specs.OneTime.{type_number, u32str}
use Rattle.lm_ots.proofs.Words.{length-u32str}
use Rattle.lms_tree.specs.declared.keys.LmsPublic.{LmsPublic}
use Rattle.lms_tree.specs.Secret.{own_public}
use Rattle.lms_tree.specs.Tree.{height, key_bytes, key_read, tree_number}
use Rattle.lms_tree.proofs.KeyBytes.{read_as_written}
use Rattle.lms_tree.proofs.OwnPaths.{length-own_node}
use Rattle.group_roster.specs.Roster.{IsKey, IsRosterForm, key_of}
use Rattle.round_script.specs.declared.script.Script.{Script}
use Rattle.round_script.specs.Script.{IsMessage, IsScript}
use Rattle.round_spec.specs.Runs.{CanEnter, IsConfiguration}
use Rattle.round_spec.proofs.SealedBytes.{all-map, all-places}
use Rattle.group_spec.specs.Scripts.{script_configuration, script_key, script_members, script_roster}
use Rattle.group_laws.specs.Entering.{IsMemberOf, ScriptsEnter}

-- ---- keys

-- the bytes of a member's key
abbrev key_of_script : Script → ℕ → List ℕ
key_of_script script member = key_bytes (own_public (script_key script member))

identifier-long : (script : Script) (member : ℕ) → length (script_key script member).identifier ≡ 16
identifier-long script member =
    let master : List ℕ = hash_of ScriptKey (script.seed ∷ (member ∷ []) ∷ []) in
    let long = (hash_bytes LmsIdentifier (master ∷ [])).0 in
    length-take-le 16 (hash_of LmsIdentifier (master ∷ [])) (omega (arith, long))

key-reads : (script : Script) (member : ℕ) → key_read (key_of_script script member) ≡ Ok (own_public (script_key script member))
key-reads script member = read_as_written (own_public (script_key script member)) (identifier-long script member)

key-long : (script : Script) (member : ℕ) → length (key_of_script script member) ≡ 56
key-long script member =
    let key : LmsPublic = own_public (script_key script member) in
    let a : List ℕ = u32str (tree_number key.lms_type) in
    let b : List ℕ = u32str (type_number key.ots_type) in
    let root = length-own_node (script_key script member) (height key.lms_type) 1 in
    let identifier = identifier-long script member in
    let first = length-u32str (tree_number key.lms_type) in
    let second = length-u32str (type_number key.ots_type) in
    omega (
      arith,
      length-append (a ++ b ++ key.identifier) key.root,
      length-append (a ++ b) key.identifier,
      length-append a b,
      root,
      identifier,
      first,
      second,
    )

is-key : (script : Script) (member : ℕ) → IsKey (key_of_script script member)
is-key script member = record { size = key-long script member; reads = rw (key-reads script member) (search rules) }

key-of : (script : Script) (member : ℕ) → IsMemberOf script member
    → key_of (script_roster script) member ≡ Some (own_public (script_key script member))
key-of script zero is = absurd (let first = is.first in omega (arith, first))
key-of script (suc k) is =
    let f : ℕ → List ℕ = key_of_script script in
    let last = is.last in
    let next : k + 1 ≡ suc k = omega arith in
    let here : slice_get (map f (script_members script)) k ≡ Some (f (suc k)) =
    slice_get-map f (script_members script) k
    ∙ ap (option_map f) (member-in (length script.messages) k (omega (arith, last)))
    ∙ ap (λ (m : ℕ). Some (f m)) next in
    ap (option_and_then (λ (key : List ℕ). result_ok (key_read key))) here ∙ ap (λ (r : Result LmsPublic _). result_ok r)
    (key-reads script (suc k))

-- ---- the roster

pub members-many : (script : Script) → length (script_roster script).keys ≡ length script.messages
members-many script = length-map-range_with_len (key_of_script script) 1 (length script.messages)

roster-form : (script : Script) → IsScript script → IsRosterForm (script_roster script)
roster-form script is =
    let many = members-many script in
    let least = is.least in
    let most = is.most in
    record {
      version = refl;
      least = omega (arith, many, least);
      most = omega (arith, many, most);
      keys = all-places IsKey (script_roster script).keys (all-map IsKey (key_of_script script) (script_members script) (is-key script));
    }

-- ---- the member

get-keeps : {A : Type 0} (P : A → Type 0) (xs : List A) (i : ℕ) (d : A) → AllByRecursion P xs → P d → P (slice_index_or xs i d)
get-keeps P [] i d all is = is
get-keeps P (y ∷ ys) zero d all is = all.0
get-keeps P (y ∷ ys) (suc i) d all is = get-keeps P ys i d all.1 is

message-is : (script : Script) (member : ℕ) → IsScript script → IsMessage (slice_index_or script.messages (member - 1) [])
message-is script member is = get-keeps IsMessage script.messages (member - 1) [] is.messages (omega arith, λ i. omega arith)

is-there : (n member : ℕ) → 1 ≤ member → member ≤ n → is_member n member ≡ true
is-there n member first last = search rules

pub can-enter : (script : Script) (member : ℕ) → IsScript script → IsMemberOf script member → CanEnter (script_configuration script member)
can-enter script member is of =
    let many = members-many script in
    let last = of.last in
    let message = message-is script member is in
    record {
      round = is.round_most;
      bytes = message.1;
      roster = roster-form script is;
      member = is-there (length (script_roster script).keys) member of.first (omega (arith, many, last));
      message = omega (arith, message.0);
      leaves = omega arith;
    }

pub configured : (script : Script) (member : ℕ) → IsScript script → IsMemberOf script member
    → IsConfiguration (script_configuration script member)
configured script member is of = record { enter = can-enter script member is of; key = key-of script member of }

pub scripts_enter : ScriptsEnter
scripts_enter script member is of = record { config = configured script member is of; spare = omega arith; roster = refl }
