-- Players and a queue go on to stand for a world: as each member is asked in turn, and as each entry is carried.
use Rattle.std.proofs.Common.{◌≡◌, ◌≢◌, ◌⊎◌, ℕ, zero, suc, ◌+◌, ◌-◌, ◌*◌, ◌<◌, ◌≤◌, Bool, true, false, List, [], ◌∷◌, ◌++◌, Option, Some, None, length, drop, take, map, ap, sym, ◌∙◌, refl, subst, arith, inl, inr, append_assoc, append-nil}
use Rattle.std.specs.Prelude.{option_map, if◌then◌else◌}
use Rattle.std.specs.List.{flat_map, slice_get, slice_set}
use Rattle.std.specs.Fn.{iterate}
use Rattle.std.proofs.lemmas.Bool.{cond-false, cond-true}
use Rattle.std.proofs.lemmas.Grind.{flat_map-append}
use Rattle.std.proofs.lemmas.List.{drop-append-le, length-set, map-append}
use Rattle.std.proofs.lemmas.Option.{slice_get_within}
use Rattle.std.proofs.Math.Seq.{take-length}
use Rattle.group_spec.specs.World.{Carriage, Entry, Seat, World, entries_behind, entries_beyond, first_world, is_dropped, seat_behind, world_behind_entry, world_behind_queue, world_behind_step}
use Rattle.group_threads.specs.declared.queue.Entry.{Entry as Held}
use Rattle.group_threads.specs.declared.player.Player.{Player}
use Rattle.group_threads.specs.Playing.{ArePlayed, HaveTurned, IsWorld, Plays, posts_of, written_entry}
use Rattle.group_threads.proofs.Members.{drop-get}

-- ---- lists

pub get-within : {A : Type 0} (xs : List A) (k : ℕ) → k < length xs → (x : A) × (slice_get xs k ≡ Some x)
get-within [] k lt = absurd (omega arith)
get-within (x ∷ xs) zero lt = (x, refl)
get-within (x ∷ xs) (suc k) lt = get-within xs k (omega arith)

set-same : {A : Type 0} (xs : List A) (k : ℕ) (x y : A) → slice_get (slice_set xs k x) k ≡ Some y → x ≡ y
set-same [] k x y e = absurd cc
set-same (z ∷ zs) zero x y e = cc
set-same (z ∷ zs) (suc k) x y e = set-same zs k x y e

set-other : {A : Type 0} (xs : List A) (i k : ℕ) (x : A) → k ≢ i → slice_get (slice_set xs i x) k ≡ slice_get xs k
set-other [] i k x ne = refl
set-other (z ∷ zs) zero zero x ne = absurd (ne refl)
set-other (z ∷ zs) zero (suc k) x ne = refl
set-other (z ∷ zs) (suc i) zero x ne = refl
set-other (z ∷ zs) (suc i) (suc k) x ne = set-other zs i k x (λ e. ne (ap suc e))

pub take-next : {A : Type 0} (xs : List A) (k : ℕ) (x : A) → slice_get xs k ≡ Some x → take (k + 1) xs ≡ take k xs ++ x ∷ []
take-next [] k x e = absurd cc
take-next (y ∷ ys) zero x e = let same : y ≡ x = cc in ap (λ z. z ∷ []) same
take-next (y ∷ ys) (suc k) x e = let same : suc k + 1 ≡ suc (k + 1) = omega arith in ap (λ n. take n (y ∷ ys)) same ∙ ap (λ zs. y ∷ zs) (take-next ys k x e)

pub get-mapped : {A B : Type 0} (f : A → B) (xs : List A) (k : ℕ) (y : B) → slice_get (map f xs) k ≡ Some y → (x : A) × (slice_get xs k ≡ Some x) × (f x ≡ y)
get-mapped f [] k y e = absurd cc
get-mapped f (x ∷ xs) zero y e = (x, refl, cc)
get-mapped f (x ∷ xs) (suc k) y e = get-mapped f xs k y e

mapped-length : {A B : Type 0} (f : A → B) (xs : List A) → length (map f xs) ≡ length xs
mapped-length f [] = refl
mapped-length f (x ∷ xs) = ap suc (mapped-length f xs)

-- a list of mapped items begins with one, and goes on with the others
pub mapped-cons : {A B : Type 0} (f : A → B) (xs : List A) (y : B) (ys : List B) → y ∷ ys ≡ map f xs →
    (x : A) × (others : List A) × (xs ≡ x ∷ others) × (y ≡ f x) × (ys ≡ map f others)
mapped-cons f [] y ys e = absurd cc
mapped-cons f (x ∷ others) y ys e = (x, others, refl, cc, cc)

pub mapped-nil : {A B : Type 0} (f : A → B) (xs : List A) → [] ≡ map f xs → xs ≡ []
mapped-nil f [] e = refl
mapped-nil f (x ∷ xs) e = absurd cc

same-or-not : (k i : ℕ) → (k ≡ i) ⊎ (k ≢ i)
same-or-not zero zero = inl refl
same-or-not zero (suc i) = inr (λ e. absurd (omega (arith, e)))
same-or-not (suc k) zero = inr (λ e. absurd (omega (arith, e)))
same-or-not (suc k) (suc i) = elim (same-or-not k i) [ inl e ↦ inl (ap suc e) | inr ne ↦ inr (λ e. ne (omega (arith, e))) ]

-- ---- members in turn

pub none-turned : (turned : Seat → Seat) (was : Seat → ℕ) (out : Seat → List Entry) (seats : List Seat) (players : List Player) (all : List Held) →
    ArePlayed players seats was → HaveTurned turned was out seats players all (all ++ []) 0
none-turned turned was out seats players all are = record {
  count = are.count;
  before = λ k player seat lt. absurd (omega (arith, lt));
  after = λ k player seat le here there. are.each k player seat here there;
  posted = refl;
}

-- one member more has had its turn
pub one-turned : (turned : Seat → Seat) (was : Seat → ℕ) (out : Seat → List Entry) (seats : List Seat) (players : List Player) (first before after : List Held)
    (place : ℕ) (old new : Player) → HaveTurned turned was out seats players first before place → slice_get players place ≡ Some old →
    ((seat : Seat) → Plays old seat (was seat) → after ≡ before ++ map written_entry (out seat)) →
    ((seat : Seat) → Plays old seat (was seat) → Plays new (turned seat) (posts_of (turned seat))) →
    HaveTurned turned was out seats (slice_set players place new) first after (place + 1)
one-turned turned was out seats players first before after place old new have is entries plays =
    let within : place < length players = slice_get_within players place old is in
    let there = get-within seats place (omega (arith, within, have.count)) in
    let seat : Seat = there.0 in
    let now : Plays old seat (was seat) = have.after place old seat (omega arith) is there.1 in
    let next : take (place + 1) seats ≡ take place seats ++ seat ∷ [] = take-next seats place seat there.1 in
    let more : flat_map out (take (place + 1) seats) ≡ flat_map out (take place seats) ++ out seat =
    ap (λ (l : List Seat). flat_map out l) next ∙ flat_map-append out (take place seats) (seat ∷ [])
    ∙ ap (λ (l : List Entry). flat_map out (take place seats) ++ l) (append-nil (out seat)) in
    record {
      count = length-set players place new ∙ have.count;
      before = λ k player s lt here was_there. elim (same-or-not k place) [
        | inl e ↦ (
            let same : new ≡ player = set-same players place new player (subst (λ (i : ℕ). slice_get (slice_set players place new) i ≡ Some player) e here) in
            let other : seat ≡ s = some-same (sym there.1 ∙ subst (λ (i : ℕ). slice_get seats i ≡ Some s) e was_there) in
            subst (λ (p : Player). Plays p (turned s) (posts_of (turned s))) same
            (subst (λ (x : Seat). Plays new (turned x) (posts_of (turned x))) other (plays seat now)))
        | inr ne ↦ have.before k player s (omega (arith, lt, ne)) (sym (set-other players place k new ne) ∙ here) was_there
      ];
      after = λ k player s le here was_there.
          let ne : k ≢ place = λ e. absurd (omega (arith, le, e)) in
          have.after k player s (omega (arith, le)) (sym (set-other players place k new ne) ∙ here) was_there;
      posted = entries seat now ∙ ap (λ (l : List Held). l ++ map written_entry (out seat)) have.posted
          ∙ append_assoc first (map written_entry (flat_map out (take place seats))) (map written_entry (out seat))
          ∙ ap (λ (l : List Held). first ++ l) (sym (map-append written_entry (flat_map out (take place seats)) (out seat))
          ∙ ap (λ (l : List Entry). map written_entry l) (sym more));
    }
  where
    some-same : {A : Type 0} {x y : A} → Some x ≡ Some y → x ≡ y
    some-same e = cc

-- all have had it
pub all-turned : (turned : Seat → Seat) (was : Seat → ℕ) (out : Seat → List Entry) (seats : List Seat) (players : List Player) (first after : List Held) (place : ℕ) →
    HaveTurned turned was out seats players first after place → length players ≤ place →
    (after ≡ first ++ map written_entry (flat_map out seats)) × ArePlayed players (map turned seats) posts_of
all-turned turned was out seats players first after place have le =
    let whole : take place seats ≡ seats = take-all seats place (omega (arith, le, have.count)) in (
      have.posted ∙ ap (λ (l : List Seat). first ++ map written_entry (flat_map out l)) whole,
      record {
        count = have.count ∙ sym (mapped-length turned seats);
        each = λ k player s here there.
            let from = get-mapped turned seats k s there in
            let lt = slice_get_within players k player here in
            subst (λ (x : Seat). Plays player x (posts_of x)) from.2 (have.before k player from.0 (omega (arith, lt, le)) here from.1);
      },
    )
  where
    take-all : {A : Type 0} (xs : List A) (n : ℕ) → length xs ≤ n → take n xs ≡ xs
    take-all [] zero le = refl
    take-all [] (suc n) le = refl
    take-all (x ∷ xs) zero le = absurd (omega (arith, le))
    take-all (x ∷ xs) (suc n) le = ap (λ ys. x ∷ ys) (take-all xs n (omega (arith, le)))

-- ---- an entry is carried

-- the first entry that is held stands for the first of the world
pub record IsFirst (held : Held) (others : List Held) (world : World) : Type 0 where
  pub entry : Entry
  pub rest : List Entry
  pub queue : world.queue ≡ entry ∷ rest
  pub written : held ≡ written_entry entry
  pub mapped : others ≡ map written_entry rest

pub first-is : (queue : List Held) (place : ℕ) (held : Held) (world : World) → slice_get queue place ≡ Some held →
    drop place queue ≡ map written_entry world.queue → IsFirst held (drop (place + 1) queue) world
first-is queue place held world is e =
    let parts = mapped-cons written_entry world.queue held (drop (place + 1) queue) (sym (drop-get queue place held is) ∙ e) in
    record { entry = parts.0; rest = parts.1; queue = parts.2; written = parts.3; mapped = parts.4 }

pub dropped-step : (carriage : Carriage) (players : List Player) (queue : List Held) (place : ℕ) (held : Held) (world : World) →
    IsWorld players queue place world → (first : IsFirst held (drop (place + 1) queue) world) → is_dropped carriage first.entry ≡ true →
    IsWorld players queue (place + 1) (world_behind_step carriage world)
unfolding world_behind_step
dropped-step carriage players queue place held world is first dropped =
    let after : World = record { seats = world.seats; queue = first.rest } in
    let step : after ≡ world_behind_queue carriage world world.queue =
    sym (cond-true (is_dropped carriage first.entry) _ _ dropped) ∙ sym (ap (λ (q : List Entry). world_behind_queue carriage world q) first.queue) in
    subst (λ (w : World). IsWorld players queue (place + 1) w) step (record { seats = is.seats; queue = first.mapped })

pub carried-step : (carriage : Carriage) (players new : List Player) (queue posted : List Held) (place : ℕ) (held : Held) (world : World) →
    IsWorld players queue place world → place < length queue → (first : IsFirst held (drop (place + 1) queue) world) → is_dropped carriage first.entry ≡ false →
    posted ≡ map written_entry (flat_map (entries_behind carriage first.entry) world.seats) →
    ArePlayed new (map (seat_behind carriage first.entry) world.seats) posts_of →
    IsWorld new (queue ++ posted) (place + 1) (world_behind_step carriage world)
unfolding world_behind_step
carried-step carriage players new queue posted place held world is within first kept entries are =
    let out : List Entry = flat_map (entries_behind carriage first.entry) world.seats in
    let after : World = record { seats = map (seat_behind carriage first.entry) world.seats; queue = first.rest ++ out } in
    let step : after ≡ world_behind_queue carriage world world.queue =
    sym (cond-false (is_dropped carriage first.entry) _ _ kept) ∙ sym (ap (λ (q : List Entry). world_behind_queue carriage world q) first.queue) in
    let queued : drop (place + 1) (queue ++ posted) ≡ map written_entry (first.rest ++ out) =
    drop-append-le (place + 1) queue posted (omega (arith, within)) ∙ ap (λ (l : List Held). l ++ posted) first.mapped
    ∙ ap (λ (l : List Held). map written_entry first.rest ++ l) entries ∙ sym (map-append written_entry first.rest out) in
    subst (λ (w : World). IsWorld new (queue ++ posted) (place + 1) w) step (record { seats = are; queue = queued })

-- where nothing is on its way a step changes nothing
pub resting-step : (carriage : Carriage) (players : List Player) (queue : List Held) (place : ℕ) (world : World) →
    IsWorld players queue place world → length queue ≤ place → IsWorld players queue (place + 1) (world_behind_step carriage world)
unfolding world_behind_step
resting-step carriage players queue place world is le =
    let none : (n : ℕ) → length queue ≤ n → drop n queue ≡ [] = drop-past queue in
    let empty : world.queue ≡ [] = mapped-nil written_entry world.queue (sym (none place le) ∙ is.queue) in
    let step : world ≡ world_behind_queue carriage world world.queue = sym (ap (λ (q : List Entry). world_behind_queue carriage world q) empty) in
    subst (λ (w : World). IsWorld players queue (place + 1) w) step
    (record { seats = is.seats; queue = none (place + 1) (omega (arith, le)) ∙ sym (ap (λ (q : List Entry). map written_entry q) empty) })
  where
    drop-past : {A : Type 0} (xs : List A) (n : ℕ) → length xs ≤ n → drop n xs ≡ []
    drop-past [] zero le = refl
    drop-past [] (suc n) le = refl
    drop-past (x ∷ xs) zero le = absurd (omega (arith, le))
    drop-past (x ∷ xs) (suc n) le = drop-past xs n (omega (arith, le))

-- ---- the whole run

-- one step more is the last one
pub one-more : {A : Type 0} (f : A → A) (n : ℕ) (a : A) → iterate f (n + 1) a ≡ f (iterate f n a)
one-more f zero a = refl
one-more f (suc n) a = let same : suc n + 1 ≡ suc (n + 1) = omega arith in ap (λ k. iterate f k a) same ∙ one-more f n (f a)

-- at the start
pub first-world : (players : List Player) (posted : List Held) (seats : List Seat) →
    posted ≡ map written_entry (flat_map (entries_beyond 0) seats) → ArePlayed players seats posts_of → IsWorld players posted 0 (first_world seats)
unfolding first_world
first-world players posted seats e are = record { seats = are; queue = e }
