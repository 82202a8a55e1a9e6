-- The group that is made from a script is one, and it is the group of the script.
use Rattle.std.proofs.Common.{◌≡◌, ℕ, zero, suc, ◌+◌, ◌-◌, ◌<◌, ◌≤◌, List, [], ◌∷◌, length, map, ap, sym, ◌∙◌, refl, subst, arith}
use Rattle.std.specs.Prelude.{All, Option, Some, None, slice_index_or, unwrap_or}
use Rattle.std.specs.List.{AllByRecursion, range_with_len}
use Rattle.std.proofs.lemmas.List.Elements.{All-cons}
use Rattle.std.proofs.lemmas.List.FromFn.{length-range_with_len}
use Rattle.lms_tree.specs.Secret.{own_public}
use Rattle.lms_tree.specs.States.{RunState, SecretState}
use Rattle.lms_tree.specs.Tree.{key_bytes}
use Rattle.bulk_descriptor.specs.declared.making.TheConstants.{MESSAGE_LIMIT}
use Rattle.phase_message.specs.declared.stage.Slot.{Slot}
use Rattle.group_roster.specs.Given.{roster_of}
use Rattle.group_roster.specs.Roster.{Roster}
use Rattle.round_script.specs.declared.fault.Fault.{Fault}
use Rattle.round_script.specs.declared.script.Script.{Script}
use Rattle.round_script.specs.Script.{IsMessage, IsRepeat, IsScript}
use Rattle.group_spec.specs.Scripts.{fault_in, script_carriage, script_end, script_members, script_roster, script_seat}
use Rattle.group_spec.specs.Driver.{group_end}
use Rattle.group_spec.specs.World.{Seat}
use Rattle.group_threads.specs.Given.{IsGroup, seat_of, seats_of}
use Rattle.group_threads.specs.Scripted.{Entrance, entrance_of, leaves_of, script_entrance, script_secret, spare_of}
use Rattle.member_parts.specs.declared.config.Config.{Config}

-- ---- lists

mapped-mapped : {A B C : Type 0} (f : B → C) (g : A → B) (xs : List A) → map f (map g xs) ≡ map (λ x. f (g x)) xs
mapped-mapped f g [] = refl
mapped-mapped f g (x ∷ xs) = ap (λ ys. f (g x) ∷ ys) (mapped-mapped f g xs)

mapped-same : {A : Type 0} (xs : List A) → map (λ x. x) xs ≡ xs
mapped-same [] = refl
mapped-same (x ∷ xs) = ap (λ ys. x ∷ ys) (mapped-same xs)

mapped-length : {A B : Type 0} (f : A → B) (xs : List A) → length (map f xs) ≡ length xs
mapped-length f [] = refl
mapped-length f (x ∷ xs) = ap suc (mapped-length f xs)

all-mapped : {A B : Type 0} (P : B → Type 0) (f : A → B) (xs : List A) → ((x : A) → P (f x)) → All P (map f xs)
all-mapped P f [] is = λ k d lt. absurd (omega (arith, lt))
all-mapped P f (x ∷ xs) is = All-cons P (f x) (map f xs) (is x) (all-mapped P f xs is)

-- what holds of all that is seen holds of all
all-seen : {A B : Type 0} (P : B → Type 0) (f : A → B) (xs : List A) → All P (map f xs) → All (λ x. P (f x)) xs
all-seen P f [] all = λ k d lt. absurd (omega (arith, lt))
all-seen P f (x ∷ xs) all = All-cons (λ x. P (f x)) x xs (all 0 (f x) (omega arith)) (all-seen P f xs (λ k d lt. all (suc k) d (omega (arith, lt))))

get-keeps : {A : Type 0} (P : A → Type 0) (xs : List A) (i : ℕ) (d : A) → AllByRecursion P xs → P d → P (slice_index_or xs i d)
get-keeps P [] i d all is = is
get-keeps P (y ∷ ys) zero d all is = all.0
get-keeps P (y ∷ ys) (suc i) d all is = get-keeps P ys i d all.1 is

-- ---- the group of a script

-- what is made from a script
pub record IsMade (script : Script) (roster : Roster) (configs : List Config) (leaves spares : List RunState) (faults : List Fault) : Type 0 where
  pub roster_is : roster ≡ script_roster script
  pub entrances : map entrance_of configs ≡ map (script_entrance script roster) (script_members script)
  pub own : leaves ≡ map leaves_of (map (script_secret script) (script_members script))
  pub second : spares ≡ map spare_of (map (script_secret script) (script_members script))
  pub faulty : faults ≡ map (fault_in script.faults) (script_members script)

members-count : (script : Script) → length (script_members script) ≡ length script.messages
members-count script = length-range_with_len 1 (length script.messages)

entrances-count : (script : Script) (roster : Roster) (configs : List Config) →
    map entrance_of configs ≡ map (script_entrance script roster) (script_members script) → length configs ≡ length script.messages
entrances-count script roster configs e =
    sym (mapped-length entrance_of configs) ∙ ap (λ (l : List Entrance). length l) e ∙ mapped-length (script_entrance script roster) (script_members script)
    ∙ members-count script

-- what is seen of each is that of the script
seen : {B : Type 0} (f : Entrance → B) (script : Script) (roster : Roster) (configs : List Config) →
    map entrance_of configs ≡ map (script_entrance script roster) (script_members script) →
    map (λ (c : Config). f (entrance_of c)) configs ≡ map (λ (m : ℕ). f (script_entrance script roster m)) (script_members script)
seen f script roster configs e = sym (mapped-mapped f entrance_of configs) ∙ ap (λ (l : List Entrance). map f l) e
    ∙ mapped-mapped f (script_entrance script roster) (script_members script)

-- so is a fact on each
each-seen : (P : Entrance → Type 0) (script : Script) (roster : Roster) (configs : List Config) →
    map entrance_of configs ≡ map (script_entrance script roster) (script_members script) →
    ((m : ℕ) → P (script_entrance script roster m)) → All (λ (c : Config). P (entrance_of c)) configs
each-seen P script roster configs e is = all-seen P entrance_of configs (subst (λ (l : List Entrance). All P l) (sym e)
    (all-mapped P (script_entrance script roster) (script_members script) is))

message-short : (script : Script) (m : ℕ) → IsScript script → length (slice_index_or script.messages (m - 1) []) ≤ MESSAGE_LIMIT
message-short script m is =
    let message = get-keeps IsMessage script.messages (m - 1) [] is.messages (omega arith, λ i. omega arith) in
    omega (arith, message.0)

pub made-group : (script : Script) (roster : Roster) (configs : List Config) (leaves spares : List RunState) (faults : List Fault) →
    IsScript script → IsMade script roster configs leaves spares faults → IsGroup configs leaves spares faults
made-group script roster configs leaves spares faults is made =
    let e = made.entrances in
    let n : length configs ≡ length script.messages = entrances-count script roster configs e in
    let members = members-count script in
    let secrets : List SecretState = map (script_secret script) (script_members script) in
    let secrets-count : length secrets ≡ length script.messages = mapped-length (script_secret script) (script_members script) ∙ members in
    let rosters : All (λ (c : Config). roster_of c.roster ≡ roster) configs = each-seen (λ (x : Entrance). x.roster ≡ roster) script roster configs e (λ m. refl) in
    let rounds : All (λ (c : Config). c.round ≡ script.round) configs = each-seen (λ (x : Entrance). x.round ≡ script.round) script roster configs e (λ m. refl) in
    let keys : length roster.keys ≡ length script.messages = ap (λ (r : Roster). length r.keys) made.roster_is
    ∙ mapped-length (λ (m : ℕ). key_bytes (own_public (script_secret script m).parts)) (script_members script) ∙ members in
    record {
      least = omega (arith, n, is.least);
      numbers = seen (λ (x : Entrance). x.number) script roster configs e ∙ mapped-same (script_members script) ∙ ap (λ (k : ℕ). range_with_len 1 k) (sym n);
      rosters = λ k d lt j f below. rosters k d lt ∙ sym (rosters j f below);
      rounds = λ k d lt j f below. rounds k d lt ∙ sym (rounds j f below);
      all = λ k d lt. ap (λ (r : Roster). length r.keys) (rosters k d lt) ∙ keys ∙ sym n;
      messages = each-seen (λ (x : Entrance). length x.message ≤ MESSAGE_LIMIT) script roster configs e (λ m. message-short script m is);
      runs = ap (λ (l : List RunState). length l) made.own ∙ mapped-length leaves_of secrets ∙ secrets-count ∙ sym n;
      enough = subst (λ (l : List RunState). All (λ (run : RunState). 12 ≤ run.left) l) (sym made.own)
          (all-mapped (λ (run : RunState). 12 ≤ run.left) leaves_of secrets (λ key. omega arith));
      spares = ap (λ (l : List RunState). length l) made.second ∙ mapped-length spare_of secrets ∙ secrets-count ∙ sym n;
      single = subst (λ (l : List RunState). All (λ (run : RunState). run.left ≡ 1) l) (sym made.second)
          (all-mapped (λ (run : RunState). run.left ≡ 1) spare_of secrets (λ key. refl));
      faulty = ap (λ (l : List Fault). length l) made.faulty ∙ mapped-length (fault_in script.faults) (script_members script) ∙ members ∙ sym n;
    }

-- a seat by what a member of a script enters with
seat-from : Script → ℕ → Entrance → Seat
seat-from script m x = record {
  config = record {
    roster = x.roster;
    number = x.number;
    round = x.round;
    fresh = x.fresh;
    message = x.message;
    key = (script_secret script m).parts;
    first = 0;
  };
  fault = fault_in script.faults m;
  spare = record { key = (script_secret script m).parts; number = 12 };
  delivered = [];
}

seats-from : (script : Script) (ms : List ℕ) (configs : List Config) → map entrance_of configs ≡ map (script_entrance script (script_roster script)) ms →
    seats_of configs (map leaves_of (map (script_secret script) ms)) (map spare_of (map (script_secret script) ms)) (map (fault_in script.faults) ms)
    ≡ map (script_seat script) ms
unfolding seat-from
seats-from script [] [] e = refl
seats-from script [] (c ∷ configs) e = absurd cc
seats-from script (m ∷ ms) [] e = absurd cc
seats-from script (m ∷ ms) (c ∷ configs) e =
    let here : entrance_of c ≡ script_entrance script (script_roster script) m = cc in
    let rest : map entrance_of configs ≡ map (script_entrance script (script_roster script)) ms = cc in
    let first : seat_of c (leaves_of (script_secret script m)) (spare_of (script_secret script m)) (fault_in script.faults m) ≡ script_seat script m
    = ap (λ (x : Entrance). seat-from script m x) here in
    ap (λ (s : Seat). s ∷ seats_of configs (map leaves_of (map (script_secret script) ms)) (map spare_of (map (script_secret script) ms))
    (map (fault_in script.faults) ms)) first
    ∙ ap (λ (l : List Seat). script_seat script m ∷ l) (seats-from script ms configs rest)

pub made-seats : (script : Script) (roster : Roster) (configs : List Config) (leaves spares : List RunState) (faults : List Fault) →
    IsMade script roster configs leaves spares faults → seats_of configs leaves spares faults ≡ map (script_seat script) (script_members script)
made-seats script roster configs leaves spares faults made =
    let e : map entrance_of configs ≡ map (script_entrance script (script_roster script)) (script_members script) =
    made.entrances ∙ ap (λ (r : Roster). map (script_entrance script r) (script_members script)) made.roster_is in
    ap (λ (l : List RunState). seats_of configs l spares faults) made.own
    ∙ ap (λ (l : List RunState). seats_of configs (map leaves_of (map (script_secret script) (script_members script))) l faults) made.second
    ∙ ap (λ (l : List Fault). seats_of configs (map leaves_of (map (script_secret script) (script_members script)))
    (map spare_of (map (script_secret script) (script_members script))) l) made.faulty
    ∙ seats-from script (script_members script) configs e

-- ---- what a script says of the run

pub roster-made : (script : Script) (keys : List SecretState) → keys ≡ map (script_secret script) (script_members script) →
    record { version = 1; keys = map (λ (key : SecretState). key_bytes (own_public key.parts)) keys } ≡ script_roster script
roster-made script keys e =
    let f : SecretState → List ℕ = λ key. key_bytes (own_public key.parts) in
    let made : List (List ℕ) → Roster = λ k. record { version = 1; keys = k } in
    ap (λ (l : List SecretState). made (map f l)) e ∙ ap made (mapped-mapped f (script_secret script) (script_members script))

pub is-made : (script : Script) (roster : Roster) (configs : List Config) (leaves spares : List RunState) (faults : List Fault) (keys : List SecretState) →
    keys ≡ map (script_secret script) (script_members script) →
    roster ≡ record { version = 1; keys = map (λ (key : SecretState). key_bytes (own_public key.parts)) keys } →
    map entrance_of configs ≡ map (script_entrance script roster) (script_members script) →
    leaves ≡ map leaves_of keys → spares ≡ map spare_of keys → faults ≡ map (fault_in script.faults) (script_members script) →
    IsMade script roster configs leaves spares faults
is-made script roster configs leaves spares faults keys secrets members entrances own second faulty = record {
  roster_is = members ∙ roster-made script keys secrets;
  entrances = entrances;
  own = own ∙ ap (λ (l : List SecretState). map leaves_of l) secrets;
  second = second ∙ ap (λ (l : List SecretState). map spare_of l) secrets;
  faulty = faulty;
}

pub made-roster : (script : Script) (roster shown : Roster) (configs : List Config) (leaves spares : List RunState) (faults : List Fault) →
    IsScript script → IsMade script roster configs leaves spares faults → All (λ (c : Config). shown ≡ roster_of c.roster) configs → shown ≡ script_roster script
made-roster script roster shown [] leaves spares faults is made all =
    let none : 0 ≡ length script.messages = entrances-count script roster [] made.entrances in absurd (omega (arith, none, is.least))
made-roster script roster shown (c ∷ configs) leaves spares faults is made all =
    let rosters = each-seen (λ (x : Entrance). x.roster ≡ roster) script roster (c ∷ configs) made.entrances (λ m. refl) in
    all 0 c (omega arith) ∙ rosters 0 c (omega arith) ∙ made.roster_is

pub repeat-least : (o : Option ℕ) → IsRepeat o → 1 ≤ unwrap_or o 1
repeat-least None is = omega arith
repeat-least (Some times) is = is.0

pub repeat-most : (o : Option ℕ) → IsRepeat o → unwrap_or o 1 ≤ 9
repeat-most None is = omega arith
repeat-most (Some times) is = is.1

pub end-is : (script : Script) (drops : List Slot) (repeat : ℕ) (seats : List Seat) → drops ≡ script.drops → repeat ≡ unwrap_or script.repeat 1 →
    seats ≡ map (script_seat script) (script_members script) → group_end (record { drops = drops; repeat = repeat }) seats ≡ script_end script
unfolding script_end
end-is script drops repeat seats d r s =
    ap (λ (l : List Slot). group_end (record { drops = l; repeat = repeat }) seats) d
    ∙ ap (λ (n : ℕ). group_end (record { drops = script.drops; repeat = n }) seats) r
    ∙ ap (λ (l : List Seat). group_end (script_carriage script) l) s
