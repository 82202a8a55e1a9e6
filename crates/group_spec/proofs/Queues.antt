-- The queue of a group empties: each entry that is carried takes from what the members can still post.
use Rattle.std.proofs.Common.{◌≡◌, ℕ, zero, suc, ◌+◌, ◌-◌, ◌*◌, ◌≤◌, List, [], ◌∷◌, ◌++◌, Option, Some, None, length, drop, map, ap, sym, ◌∙◌, refl, subst, arith, append_assoc, append-nil}
use Rattle.std.specs.Prelude.{replicate}
use Rattle.std.specs.List.{flat_map, sum_by}
use Rattle.std.specs.Fn.{iterate}
use Rattle.std.proofs.lemmas.List.{length-append, length-drop}
use Rattle.std.proofs.lemmas.List.Sums.{sum_by-cons}
use Rattle.phase_message.specs.declared.post.Post.{Post}
use Rattle.phase_message.specs.Post.{post_spelling}
use Rattle.phase_message.specs.Slots.{stage_count}
use Rattle.round_spec.specs.Say.{Configuration, shape_in}
use Rattle.member_spec.specs.Actor.{actor_after}
use Rattle.member_spec.specs.Replies.{Replies}
use Rattle.member_spec.proofs.Growing.{posts_grow}
use Rattle.group_spec.specs.Driver.{QueuesEmpty, RunsEndAlike}
use Rattle.group_spec.specs.Faulty.{faulty_member, faulty_replies}
use Rattle.group_spec.specs.World.{Carriage, Entry, Seat, World, actor_of, entries_behind, entries_beyond, entries_of, entries_with, first_world, greatest_steps, is_dropped, is_for, last_world, seat_behind, second_content, world_behind_entry, world_behind_queue, world_behind_step}
use Rattle.group_spec.proofs.Made.{choose}
use Rattle.group_spec.proofs.Posts.{posts-most}

-- ---- posts

-- with more deliveries there are no fewer posts
posts-more : (replies : Replies) (c : Configuration) (delivered more : List (List ℕ)) →
    length (actor_after replies c delivered).made ≤ length (actor_after replies c (delivered ++ more)).made
posts-more replies c delivered [] =
    let same : length (actor_after replies c (delivered ++ [])).made ≡ length (actor_after replies c delivered).made
    = ap (λ (d : List (List ℕ)). length (actor_after replies c d).made) (append-nil delivered) in omega (arith, same)
posts-more replies c delivered (bytes ∷ more) =
    let one = posts_grow replies c delivered bytes in
    let first : length (actor_after replies c (delivered ++ bytes ∷ [])).made ≡ length (actor_after replies c delivered).made + length one.0
    = ap (λ (p : List Post). length p) one.1 ∙ length-append (actor_after replies c delivered).made one.0 in
    let others = posts-more replies c (delivered ++ bytes ∷ []) more in
    let same : length (actor_after replies c ((delivered ++ bytes ∷ []) ++ more)).made ≡ length
    (actor_after replies c (delivered ++ bytes ∷ more)).made
    = ap (λ (d : List (List ℕ)). length (actor_after replies c d).made) (append_assoc delivered (bytes ∷ []) more) in
    omega (arith, first, others, same)

-- how many posts a member has made
made-by : Seat → ℕ
made-by seat = length (actor_of seat).made

-- the greatest number of them
can-make : Seat → ℕ
can-make seat = stage_count (shape_in seat.config)

made-most : (seat : Seat) → made-by seat ≤ can-make seat
unfolding made-by can-make
made-most seat = posts-most (faulty_replies (faulty_member seat.fault seat.config.number)) seat.config seat.delivered

-- ---- entries

two-most : (seat : Seat) (post : Post) (second : Option (List ℕ)) → length (entries_with seat post second) ≤ 2
two-most seat post None = omega arith
two-most seat post (Some content) = omega arith

entries-most : (seat : Seat) (posts : List Post) → length (flat_map (entries_of seat) posts) ≤ 2 * length posts
entries-most seat [] = omega arith
entries-most seat (post ∷ posts) =
    let first = two-most seat post (second_content seat.fault (shape_in seat.config) post) in
    let others = entries-most seat posts in
    let both = length-append (entries_of seat post) (flat_map (entries_of seat) posts) in
    omega (arith, first, others, both)

beyond-most : (before : ℕ) (seat : Seat) → length (entries_beyond before seat) ≤ 2 * (made-by seat - before)
unfolding entries_beyond made-by
beyond-most before seat =
    let most = entries-most seat (drop before (actor_of seat).made) in
    let left = length-drop before (actor_of seat).made in
    omega (arith, most, left)

-- ---- what the members can still post

still-left : Seat → ℕ
still-left seat = 2 * (can-make seat - made-by seat)

-- a member behind an entry has as many stages, and no fewer posts
record GoesOn (before after : Seat) : Type 0 where
  most : can-make after ≡ can-make before
  more : made-by before ≤ made-by after

behind-goes_on : (carriage : Carriage) (entry : Entry) (seat : Seat) → GoesOn seat (seat_behind carriage entry seat)
unfolding seat_behind made-by can-make
behind-goes_on carriage entry seat =
    let bytes : List (List ℕ) = replicate carriage.repeat (post_spelling entry.post) in
    choose (λ (s : Seat). GoesOn seat s) (is_for seat.config.number entry) (record seat { delivered = seat.delivered ++ bytes }) seat
    (λ _. record {
      most = refl;
      more = posts-more (faulty_replies (faulty_member seat.fault seat.config.number)) seat.config seat.delivered
          bytes;
    })
    (λ _. record { most = refl; more = omega arith })

behind-counted : (carriage : Carriage) (entry : Entry) (seat : Seat) →
    length (entries_behind carriage entry seat) ≡ length (entries_beyond (made-by seat) (seat_behind carriage entry seat))
unfolding made-by
behind-counted carriage entry seat = refl

left-counted : (seat : Seat) → still-left seat ≡ 2 * (can-make seat - made-by seat)
unfolding still-left
left-counted seat = refl

seat-less : (carriage : Carriage) (entry : Entry) (seat : Seat) →
    length (entries_behind carriage entry seat) + still-left (seat_behind carriage entry seat) ≤ still-left seat
unfolding still-left
seat-less carriage entry seat =
    let after : Seat = seat_behind carriage entry seat in
    let on = behind-goes_on carriage entry seat in
    let most = made-most after in
    let few : length (entries_beyond (made-by seat) after) ≤ 2 * (made-by after - made-by seat) = beyond-most (made-by seat) after in
    let same : length (entries_behind carriage entry seat) ≡ length (entries_beyond (made-by seat) after) = behind-counted carriage entry
    seat in
    omega (arith, on.most, on.more, most, few, same)

all-less : (carriage : Carriage) (entry : Entry) (seats : List Seat) →
    length (flat_map (entries_behind carriage entry) seats) + sum_by still-left (map (seat_behind carriage entry) seats) ≤ sum_by still-left
    seats
all-less carriage entry [] = omega arith
all-less carriage entry (seat ∷ seats) =
    let first = seat-less carriage entry seat in
    let others = all-less carriage entry seats in
    let entries = length-append (entries_behind carriage entry seat) (flat_map (entries_behind carriage entry) seats) in
    let after = sum_by-cons still-left (seat_behind carriage entry seat) (map (seat_behind carriage entry) seats) in
    let before = sum_by-cons still-left seat seats in
    omega (arith, first, others, entries, after, before)

-- ---- steps

-- what is on its way, and what can still come
to-come : World → ℕ
to-come world = length world.queue + sum_by still-left world.seats

entry-less : (carriage : Carriage) (seats : List Seat) (entry : Entry) (others : List Entry) →
    to-come (world_behind_entry carriage seats entry others) ≤ length others + sum_by still-left seats
unfolding to-come
entry-less carriage seats entry others =
    let less = all-less carriage entry seats in
    let entries = length-append others (flat_map (entries_behind carriage entry) seats) in
    choose (λ (w : World). to-come w ≤ length others + sum_by still-left seats) (is_dropped carriage entry)
    (record { seats = seats; queue = others })
    (record { seats = map (seat_behind carriage entry) seats; queue = others ++ flat_map (entries_behind carriage entry) seats })
    (λ _. omega arith) (λ _. omega (arith, less, entries))

-- a world that nothing is on its way in stays
step-rests : (carriage : Carriage) (world : World) → world.queue ≡ [] → world_behind_step carriage world ≡ world
unfolding world_behind_step
step-rests carriage world empty = rw empty refl

steps-rest : (carriage : Carriage) (n : ℕ) (world : World) → world.queue ≡ [] → iterate (world_behind_step carriage) n world ≡ world
steps-rest carriage zero world empty = refl
steps-rest carriage (suc n) world empty =
    ap (iterate (world_behind_step carriage) n) (step-rests carriage world empty) ∙ steps-rest carriage n world empty

come-counted : (world : World) → to-come world ≡ length world.queue + sum_by still-left world.seats
unfolding to-come
come-counted world = refl

step-less : (carriage : Carriage) (world : World) (entry : Entry) (others : List Entry) → world.queue ≡ entry ∷ others →
    to-come (world_behind_step carriage world) + 1 ≤ to-come world
unfolding world_behind_step
step-less carriage world entry others is =
    let less = entry-less carriage world.seats entry others in
    let all = come-counted world in
    let queue : length world.queue ≡ suc (length others) = ap (λ (q : List Entry). length q) is in
    subst (λ (q : List Entry). to-come (world_behind_queue carriage world q) + 1 ≤ to-come world) (sym is) (omega (arith, less, all, queue))

none-left : (world : World) → to-come world ≤ 0 → world.queue ≡ []
unfolding to-come
none-left world most = empty world.queue (omega (arith, most))
  where
    empty : (queue : List Entry) → length queue ≤ 0 → queue ≡ []
    empty [] le = refl
    empty (entry ∷ entries) le = absurd (omega arith)

-- a choice by the first entry
by-queue : (P : Type 0) (queue : List Entry) → (queue ≡ [] → P) → ((entry : Entry) (others : List Entry) → queue ≡ entry ∷ others → P) → P
by-queue P [] empty more = empty refl
by-queue P (entry ∷ others) empty more = more entry others refl

runs-out : (carriage : Carriage) (n : ℕ) (world : World) → to-come world ≤ n → (iterate (world_behind_step carriage) n world).queue ≡ []
runs-out carriage zero world most = none-left world most
runs-out carriage (suc n) world most =
    by-queue ((iterate (world_behind_step carriage) n (world_behind_step carriage world)).queue ≡ []) world.queue
    (λ empty. ap (λ (w : World). w.queue) (steps-rest carriage (suc n) world empty) ∙ empty)
    (λ entry others is. (let less = step-less carriage world entry others is in
    runs-out carriage n (world_behind_step carriage world) (omega (arith, less, most))))

-- ---- the whole run

can-be : (seat : Seat) → can-make seat ≡ stage_count (shape_in seat.config)
unfolding can-make
can-be seat = refl

start-most : (seats : List Seat) → length (flat_map (entries_beyond 0) seats) + sum_by still-left seats ≤ greatest_steps seats
unfolding greatest_steps
start-most [] = omega arith
start-most (seat ∷ seats) =
    let few = beyond-most 0 seat in
    let most = made-most seat in
    let left = left-counted seat in
    let others = start-most seats in
    let entries = length-append (entries_beyond 0 seat) (flat_map (entries_beyond 0) seats) in
    let before = sum_by-cons still-left seat seats in
    let all = sum_by-cons (λ (s : Seat). 2 * stage_count (shape_in s.config)) seat seats in
    let stages = can-be seat in
    omega (arith, few, most, left, others, entries, before, all, stages)

first-most : (seats : List Seat) → to-come (first_world seats) ≤ greatest_steps seats
unfolding first_world to-come
first-most seats = start-most seats

pub queues_empty : QueuesEmpty
unfolding last_world first_world
queues_empty carriage seats = runs-out carriage (greatest_steps seats) (first_world seats) (first-most seats)

iterate-add : (f : World → World) (n m : ℕ) (world : World) → iterate f (n + m) world ≡ iterate f m (iterate f n world)
iterate-add f zero m world = let same : zero + m ≡ m = omega arith in ap (λ (k : ℕ). iterate f k world) same
iterate-add f (suc n) m world =
    let next : suc n + m ≡ suc (n + m) = omega arith in ap (λ (k : ℕ). iterate f k world) next ∙ iterate-add f n m (f world)

pub runs_end_alike : RunsEndAlike
unfolding last_world
runs_end_alike carriage seats more =
    iterate-add (world_behind_step carriage) (greatest_steps seats) more (first_world seats)
    ∙ steps-rest carriage more (last_world carriage seats) (queues_empty carriage seats)
