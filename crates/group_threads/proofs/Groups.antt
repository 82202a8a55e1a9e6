-- A group before its first entry and behind its last: its members begin, and are shown.
use Rattle.std.proofs.Common.{◌≡◌, ℕ, zero, suc, ◌+◌, ◌-◌, ◌*◌, ◌<◌, ◌≤◌, List, [], ◌∷◌, ◌++◌, Option, Some, None, length, drop, take, map, ap, sym, ◌∙◌, refl, subst, arith}
use Rattle.std.specs.Prelude.{All}
use Rattle.std.specs.List.{range_with_len, slice_get, sum_by}
use Rattle.std.specs.Fn.{iterate}
use Rattle.std.proofs.lemmas.List.{length-append}
use Rattle.std.proofs.lemmas.List.Elements.{All-cons}
use Rattle.std.proofs.lemmas.List.Sums.{sum_by-cons}
use Rattle.std.proofs.lemmas.Option.{get_or_from_slice_get, slice_get_within, slice_get-get_or}
use Rattle.std.proofs.Common.{get_or}
use Rattle.lms_tree.specs.States.{RunState}
use Rattle.bulk_descriptor.specs.declared.making.TheConstants.{MESSAGE_LIMIT}
use Rattle.phase_message.specs.Slots.{stage_count}
use Rattle.group_roster.specs.Given.{roster_of}
use Rattle.group_roster.specs.Roster.{Roster}
use Rattle.round_spec.specs.Say.{Configuration, shape_in}
use Rattle.member_parts.specs.declared.config.Config.{Config}
use Rattle.member_core.specs.Stands.{configuration_of}
use Rattle.round_script.specs.declared.fault.Fault.{Fault}
use Rattle.group_spec.specs.Driver.{MemberShown, group_end, shown_of}
use Rattle.group_spec.specs.World.{Carriage, Seat, World, first_world, greatest_steps, last_world, world_behind_step}
use Rattle.group_spec.proofs.Queues.{runs_end_alike}
use Rattle.group_threads.specs.declared.ending.GroupEnd.{GroupEnd}
use Rattle.group_spec.specs.declared.ending.MemberEnd.{MemberEnd}
use Rattle.group_threads.specs.declared.player.Player.{Player}
use Rattle.group_threads.specs.Given.{IsGroup, ShowsGroup, end_shown, seat_of, seats_of}
use Rattle.group_threads.specs.Playing.{ArePlayed, IsWorld, Plays}
use Rattle.group_threads.proofs.Members.{drop-get}
use Rattle.group_threads.proofs.Worlds.{get-within, take-next}

-- ---- lists

-- what holds of all holds of what stands at a place
pub all-at : {A : Type 0} (P : A → Type 0) (xs : List A) (k : ℕ) (x : A) → All P xs → slice_get xs k ≡ Some x → P x
all-at P xs k x all e = subst P (get_or_from_slice_get xs k x x e) (all k x (slice_get_within xs k x e))

-- what an index gives stands there
pub indexed : {A : Type 0} (xs : List A) (k : ℕ) (x : A) → k < length xs → x ≡ get_or xs k x → slice_get xs k ≡ Some x
indexed xs k x lt e = slice_get-get_or xs k x lt ∙ ap (λ (y : _). Some y) (sym e)

-- numbers from one on
pub numbered : {A : Type 0} (f : A → ℕ) (xs : List A) (from n k : ℕ) (x : A) → map f xs ≡ range_with_len from n → slice_get xs k ≡ Some x → f x ≡ from + k
numbered f [] from n k x e is = absurd cc
numbered f (y ∷ ys) from zero k x e is = absurd cc
numbered f (y ∷ ys) from (suc n) zero x e is =
    let first : f y ≡ from = cc in
    let same : y ≡ x = cc in
    omega (arith, ap f same, first)
numbered f (y ∷ ys) from (suc n) (suc k) x e is =
    let others : map f ys ≡ range_with_len (from + 1) n = cc in
    let later = numbered f ys (from + 1) n k x others is in
    omega (arith, later)

-- what was taken from the front stood there
pub taken-get : {A : Type 0} (xs : List A) (k : ℕ) (x : A) (ys : List A) → drop k xs ≡ x ∷ ys → (slice_get xs k ≡ Some x) × (ys ≡ drop (k + 1) xs)
taken-get [] zero x ys e = absurd cc
taken-get [] (suc k) x ys e = absurd cc
taken-get (z ∷ zs) zero x ys e = let same : z ≡ x = cc in let rest : zs ≡ ys = cc in (ap (λ y. Some y) same, sym rest)
taken-get (z ∷ zs) (suc k) x ys e =
    let same : suc (k + 1) ≡ suc k + 1 = omega arith in
    let got = taken-get zs k x ys e in
    (got.0, got.1 ∙ ap (λ n. drop n (z ∷ zs)) same)

-- ---- players and seats side by side

played-none : (was : Seat → ℕ) → ArePlayed [] [] was
played-none was = record { count = refl; each = λ k player seat here there. absurd cc }

played-tail : (p : Player) (ps : List Player) (s : Seat) (ss : List Seat) (was : Seat → ℕ) → ArePlayed (p ∷ ps) (s ∷ ss) was → ArePlayed ps ss was
played-tail p ps s ss was are = record {
  count = omega (arith, are.count);
  each = λ k player seat here there. are.each (suc k) player seat here there;
}

played-cons : (p : Player) (ps : List Player) (s : Seat) (ss : List Seat) (was : Seat → ℕ) → Plays p s (was s) → ArePlayed ps ss was → ArePlayed (p ∷ ps) (s ∷ ss) was
played-cons p ps s ss was first others = record { count = omega (arith, others.count); each = at }
  where
    at : (k : ℕ) (player : Player) (seat : Seat) → slice_get (p ∷ ps) k ≡ Some player → slice_get (s ∷ ss) k ≡ Some seat → Plays player seat (was seat)
    at zero player seat here there =
        let one : p ≡ player = cc in
        let two : s ≡ seat = cc in
        subst (λ (x : Player). Plays x seat (was seat)) one (subst (λ (x : Seat). Plays p x (was x)) two first)
    at (suc k) player seat here there = others.each k player seat here there

-- one player more
pub played-more : (ps : List Player) (p : Player) (ss : List Seat) (s : Seat) (was : Seat → ℕ) → ArePlayed ps ss was → Plays p s (was s) →
    ArePlayed (ps ++ p ∷ []) (ss ++ s ∷ []) was
played-more [] p [] s was are plays = played-cons p [] s [] was plays (played-none was)
played-more [] p (t ∷ ss) s was are plays = absurd (omega (arith, are.count))
played-more (q ∷ qs) p [] s was are plays = absurd (omega (arith, are.count))
played-more (q ∷ qs) p (t ∷ ss) s was are plays =
    played-cons q (qs ++ p ∷ []) t (ss ++ s ∷ []) was (are.each 0 q t refl refl) (played-more qs p ss s was (played-tail q qs t ss was are) plays)

-- the last of the players stands for the last member
pub record IsLast (ps : List Player) (p : Player) (seats : List Seat) (was : Seat → ℕ) : Type 0 where
  pub front : List Seat
  pub seat : Seat
  pub all : seats ≡ front ++ seat ∷ []
  pub others : ArePlayed ps front was
  pub plays : Plays p seat (was seat)

pub played-last : (ps : List Player) (p : Player) (seats : List Seat) (was : Seat → ℕ) → ArePlayed (ps ++ p ∷ []) seats was → IsLast ps p seats was
played-last [] p [] was are = absurd (omega (arith, are.count))
played-last [] p (s ∷ []) was are = record { front = []; seat = s; all = refl; others = played-none was; plays = are.each 0 p s refl refl }
played-last [] p (s ∷ t ∷ ss) was are = absurd (omega (arith, are.count))
played-last (q ∷ qs) p [] was are = absurd (omega (arith, are.count))
played-last (q ∷ qs) p (s ∷ ss) was are =
    let last = played-last qs p ss was (played-tail q (qs ++ p ∷ []) s ss was are) in
    record {
      front = s ∷ last.front;
      seat = last.seat;
      all = ap (λ (l : List Seat). s ∷ l) last.all;
      others = played-cons q qs s last.front was (are.each 0 q s refl refl) last.others;
      plays = last.plays;
    }

-- ---- at the start

-- the seat of a member by what it is given
pub seat-at : (configs : List Config) (runs spares : List RunState) (faults : List Fault) (k : ℕ) (config : Config) (leaves spare : RunState) (fault : Fault) →
    slice_get configs k ≡ Some config → slice_get runs k ≡ Some leaves → slice_get spares k ≡ Some spare → slice_get faults k ≡ Some fault →
    slice_get (seats_of configs runs spares faults) k ≡ Some (seat_of config leaves spare fault)
seat-at [] runs spares faults k config leaves spare fault a b c d = absurd cc
seat-at (x ∷ configs) [] spares faults k config leaves spare fault a b c d = absurd cc
seat-at (x ∷ configs) (y ∷ runs) [] faults k config leaves spare fault a b c d = absurd cc
seat-at (x ∷ configs) (y ∷ runs) (z ∷ spares) [] k config leaves spare fault a b c d = absurd cc
seat-at (x ∷ configs) (y ∷ runs) (z ∷ spares) (w ∷ faults) zero config leaves spare fault a b c d =
    let one : x ≡ config = cc in
    let two : y ≡ leaves = cc in
    let three : z ≡ spare = cc in
    let four : w ≡ fault = cc in
    ap (λ (v : Config). Some (seat_of v y z w)) one ∙ ap (λ (v : RunState). Some (seat_of config v z w)) two
    ∙ ap (λ (v : RunState). Some (seat_of config leaves v w)) three ∙ ap (λ (v : Fault). Some (seat_of config leaves spare v)) four
seat-at (x ∷ configs) (y ∷ runs) (z ∷ spares) (w ∷ faults) (suc k) config leaves spare fault a b c d =
    seat-at configs runs spares faults k config leaves spare fault a b c d

-- a copy of what a member enters with is as good
pub same-seat : (copy config : Config) (leaves spare : RunState) (fault : Fault) → roster_of copy.roster ≡ roster_of config.roster →
    copy.number ≡ config.number → copy.round ≡ config.round → copy.fresh ≡ config.fresh → copy.message ≡ config.message →
    seat_of copy leaves spare fault ≡ seat_of config leaves spare fault
same-seat copy config leaves spare fault roster number round fresh message =
    let made : Roster → ℕ → ℕ → List ℕ → List ℕ → Seat = λ (r : Roster) (n t : ℕ) (f m : List ℕ). record {
      config = record { roster = r; number = n; round = t; fresh = f; message = m; key = leaves.parts; first = leaves.first };
      fault = fault;
      spare = record { key = spare.parts; number = spare.first };
      delivered = [];
    } in
    ap (λ (r : Roster). made r copy.number copy.round copy.fresh copy.message) roster
    ∙ ap (λ (n : ℕ). made (roster_of config.roster) n copy.round copy.fresh copy.message) number
    ∙ ap (λ (t : ℕ). made (roster_of config.roster) config.number t copy.fresh copy.message) round
    ∙ ap (λ (f : List ℕ). made (roster_of config.roster) config.number config.round f copy.message) fresh
    ∙ ap (λ (m : List ℕ). made (roster_of config.roster) config.number config.round config.fresh m) message

-- ---- how many steps

steps-cons : (seat : Seat) (seats : List Seat) → greatest_steps (seat ∷ seats) ≡ 2 * stage_count (shape_in seat.config) + greatest_steps seats
unfolding greatest_steps
steps-cons seat seats = sum_by-cons (λ (s : Seat). 2 * stage_count (shape_in s.config)) seat seats

steps-none : greatest_steps [] ≡ 0
unfolding greatest_steps
steps-none = refl

pub steps-most : (configs : List Config) (runs spares : List RunState) (faults : List Fault) →
    greatest_steps (seats_of configs runs spares faults) ≤ 52 * length configs
steps-most [] runs spares faults = omega (arith, steps-none)
steps-most (x ∷ configs) [] spares faults = omega (arith, steps-none)
steps-most (x ∷ configs) (y ∷ runs) [] faults = omega (arith, steps-none)
steps-most (x ∷ configs) (y ∷ runs) (z ∷ spares) [] = omega (arith, steps-none)
steps-most (x ∷ configs) (y ∷ runs) (z ∷ spares) (w ∷ faults) =
    let others = steps-most configs runs spares faults in
    let here = steps-cons (seat_of x y z w) (seats_of configs runs spares faults) in
    let most = x.roster.form.most in
    omega (arith, others, here, most)

-- after at least the greatest number of steps all is carried
pub carried : (carriage : Carriage) (seats : List Seat) (n : ℕ) → greatest_steps seats ≤ n →
    iterate (world_behind_step carriage) n (first_world seats) ≡ last_world carriage seats
carried carriage seats n le =
    let same : n ≡ greatest_steps seats + (n - greatest_steps seats) = omega arith in
    ap (λ (k : ℕ). iterate (world_behind_step carriage) k (first_world seats)) same ∙ runs_end_alike carriage seats (n - greatest_steps seats)

-- ---- at the end

mapped-mapped : {A B C : Type 0} (f : B → C) (g : A → B) (xs : List A) → map f (map g xs) ≡ map (λ x. f (g x)) xs
mapped-mapped f g [] = refl
mapped-mapped f g (x ∷ xs) = ap (λ ys. f (g x) ∷ ys) (mapped-mapped f g xs)

pub mapped-last : {A B : Type 0} (f : A → B) (xs : List A) (x : A) → map f (xs ++ x ∷ []) ≡ map f xs ++ f x ∷ []
mapped-last f [] x = refl
mapped-last f (y ∷ ys) x = ap (λ zs. f y ∷ zs) (mapped-last f ys x)

pub mapped-same : {A : Type 0} (xs : List A) → map (λ x. x) xs ≡ xs
mapped-same [] = refl
mapped-same (x ∷ xs) = ap (λ ys. x ∷ ys) (mapped-same xs)

-- what is shown of a member, and what was delivered to it
abbrev pub shown-end : Seat → MemberEnd
shown-end seat = end_shown (shown_of seat)

delivered-is : (seat : Seat) → (shown_of seat).delivered ≡ seat.delivered
unfolding shown_of
delivered-is seat = refl

all-delivered : (seats : List Seat) → map (λ (s : MemberShown). s.delivered) (map shown_of seats) ≡ map (λ (s : Seat). s.delivered) seats
all-delivered [] = refl
all-delivered (s ∷ ss) = ap (λ (d : List (List ℕ)). d ∷ map (λ (x : MemberShown). x.delivered) (map shown_of ss)) (delivered-is s)
    ∙ ap (λ (l : List (List (List ℕ))). s.delivered ∷ l) (all-delivered ss)

pub shows : (seats : List Seat) (end : GroupEnd) → end.members ≡ map shown-end seats → end.deliveries ≡ map (λ (s : Seat). s.delivered) seats →
    ShowsGroup (map shown_of seats) end
shows seats end members deliveries = record {
  members = members ∙ sym (mapped-mapped end_shown shown_of seats);
  deliveries = deliveries ∙ sym (all-delivered seats);
}

-- the whole group is shown
pub shows-group : (carriage : Carriage) (seats : List Seat) (end : GroupEnd) → ShowsGroup (map shown_of (last_world carriage seats).seats) end →
    ShowsGroup (group_end carriage seats) end
unfolding group_end
shows-group carriage seats end is = is

-- ---- the group

-- a group has eight members at most
pub few : (configs : List Config) (leaves spare : List RunState) (faults : List Fault) → IsGroup configs leaves spare faults → length configs ≤ 8
few configs leaves spare faults is =
    let one = get-within configs 0 (omega (arith, is.least)) in
    let config : Config = one.0 in
    let all : length config.roster.keys ≡ length configs = all-at (λ (c : Config). length c.roster.keys ≡ length configs) configs 0 config is.all one.1 in
    omega (arith, all, config.roster.form.most)

-- what a member needs to begin
pub record CanBegin (configs : List Config) (config : Config) (leaves spare : RunState) : Type 0 where
  pub first : 1 ≤ config.number
  pub last : config.number ≤ length config.roster.keys
  pub short : length config.message ≤ MESSAGE_LIMIT
  pub leaves_left : 12 ≤ leaves.left
  pub single : spare.left ≡ 1

pub can-begin : (configs : List Config) (runs spares : List RunState) (faults : List Fault) (k : ℕ) (config : Config) (leaves spare : RunState) →
    IsGroup configs runs spares faults → slice_get configs k ≡ Some config → slice_get runs k ≡ Some leaves → slice_get spares k ≡ Some spare →
    CanBegin configs config leaves spare
can-begin configs runs spares faults k config leaves spare is here own second =
    let number : config.number ≡ 1 + k = numbered (λ (c : Config). c.number) configs 1 (length configs) k config is.numbers here in
    let within = slice_get_within configs k config here in
    let all : length config.roster.keys ≡ length configs = all-at (λ (c : Config). length c.roster.keys ≡ length configs) configs k config is.all here in
    record {
      first = omega (arith, number);
      last = omega (arith, number, within, all);
      short = all-at (λ (c : Config). length c.message ≤ MESSAGE_LIMIT) configs k config is.messages here;
      leaves_left = all-at (λ (run : RunState). 12 ≤ run.left) runs k leaves is.enough own;
      single = all-at (λ (run : RunState). run.left ≡ 1) spares k spare is.single second;
    }

-- so with what is next of the leaves and of the spare ones
pub can-take : (configs : List Config) (runs spares : List RunState) (faults : List Fault) (k : ℕ) (config : Config) (leaves spare : RunState)
    (rest others : List RunState) → IsGroup configs runs spares faults → k < length configs → config ≡ get_or configs k config →
    drop k runs ≡ leaves ∷ rest → drop k spares ≡ spare ∷ others → CanBegin configs config leaves spare
can-take configs runs spares faults k config leaves spare rest others is within here own second =
    can-begin configs runs spares faults k config leaves spare is (indexed configs k config within here)
    (taken-get runs k leaves rest own).0 (taken-get spares k spare others second).0

-- one member more has begun
pub begun : (configs : List Config) (runs spares : List RunState) (faults : List Fault) (k : ℕ) (config : Config) (leaves spare : RunState) (fault : Fault)
    (players : List Player) (player : Player) → slice_get configs k ≡ Some config → slice_get runs k ≡ Some leaves → slice_get spares k ≡ Some spare →
    slice_get faults k ≡ Some fault → ArePlayed players (take k (seats_of configs runs spares faults)) (λ _. 0) →
    Plays player (seat_of config leaves spare fault) 0 →
    ArePlayed (players ++ player ∷ []) (take (k + 1) (seats_of configs runs spares faults)) (λ _. 0)
begun configs runs spares faults k config leaves spare fault players player a b c d are plays =
    let seat : Seat = seat_of config leaves spare fault in
    let next = take-next (seats_of configs runs spares faults) k seat (seat-at configs runs spares faults k config leaves spare fault a b c d) in
    subst (λ (l : List Seat). ArePlayed (players ++ player ∷ []) l (λ _. 0)) (sym next)
    (played-more players player (take k (seats_of configs runs spares faults)) seat (λ _. 0) are plays)

seats-length : (configs : List Config) (runs spares : List RunState) (faults : List Fault) → length (seats_of configs runs spares faults) ≤ length configs
seats-length [] runs spares faults = omega arith
seats-length (x ∷ configs) [] spares faults = omega arith
seats-length (x ∷ configs) (y ∷ runs) [] faults = omega arith
seats-length (x ∷ configs) (y ∷ runs) (z ∷ spares) [] = omega arith
seats-length (x ∷ configs) (y ∷ runs) (z ∷ spares) (w ∷ faults) = let others = seats-length configs runs spares faults in omega (arith, others)

take-all : {A : Type 0} (xs : List A) (n : ℕ) → length xs ≤ n → take n xs ≡ xs
take-all [] zero le = refl
take-all [] (suc n) le = refl
take-all (x ∷ xs) zero le = absurd (omega (arith, le))
take-all (x ∷ xs) (suc n) le = ap (λ ys. x ∷ ys) (take-all xs n (omega (arith, le)))

-- all have
pub all-begun : (configs : List Config) (runs spares : List RunState) (faults : List Fault) (n : ℕ) (players : List Player) → length configs ≤ n →
    ArePlayed players (take n (seats_of configs runs spares faults)) (λ _. 0) → ArePlayed players (seats_of configs runs spares faults) (λ _. 0)
all-begun configs runs spares faults n players le are =
    let most = seats-length configs runs spares faults in
    subst (λ (l : List Seat). ArePlayed players l (λ _. 0)) (take-all (seats_of configs runs spares faults) n (omega (arith, le, most))) are
