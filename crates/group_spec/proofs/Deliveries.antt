-- All that is delivered was posted: each entry on its way is one of a member's posts, and stays so when the member goes on.
use Rattle.std.proofs.Common.{◌≡◌, ℕ, zero, suc, true, List, [], ◌∷◌, ◌++◌, Option, Some, None, length, drop, map, ap, sym, ◌∙◌, refl, subst, arith, inl, inr, append_assoc, append-nil}
use Rattle.std.specs.Prelude.{Contains, replicate}
use Rattle.std.specs.List.{flat_map}
use Rattle.std.specs.Fn.{iterate}
use Rattle.std.proofs.lemmas.List.{get_or-replicate, length-replicate}
use Rattle.std.proofs.lemmas.List.Elements.{Contains-append_cases, Contains-append_left}
use Rattle.phase_message.specs.declared.post.Post.{Post}
use Rattle.phase_message.specs.Post.{post_spelling}
use Rattle.round_spec.specs.Say.{Configuration, shape_in}
use Rattle.round_spec.proofs.Contained.{contains-flat, contains-flat-from, contains-here, contains-later, contains-map, contains-map-from, contains-nothing}
use Rattle.member_spec.specs.Actor.{actor_after}
use Rattle.member_spec.specs.Replies.{Replies}
use Rattle.member_spec.proofs.Growing.{posts_grow}
use Rattle.group_spec.specs.Delivered.{ArePosted, ComesFrom, DeliveriesWerePosted}
use Rattle.group_spec.specs.Faulty.{faulty_member, faulty_replies}
use Rattle.group_spec.specs.World.{Carriage, Entry, Seat, World, actor_of, entries_behind, entries_beyond, entries_of, entries_with, first_world, greatest_steps, is_dropped, is_for, last_world, seat_behind, second_content, world_behind_entry, world_behind_queue, world_behind_step}
use Rattle.group_spec.proofs.Made.{choose}

-- ---- lists

contains-drop : {A : Type 0} (n : ℕ) (xs : List A) (x : A) → Contains (drop n xs) x → Contains xs x
contains-drop zero xs x c = c
contains-drop (suc n) [] x c = c
contains-drop (suc n) (y ∷ ys) x c = contains-later y ys x (contains-drop n ys x c)

contains-replicate : (n : ℕ) (bytes other : List ℕ) → Contains (replicate n bytes) other → other ≡ bytes
contains-replicate n bytes other (k, lt, e) =
    let long = length-replicate n bytes in sym e ∙ get_or-replicate n k bytes other (omega (arith, lt, long))

-- ---- a member that goes on

-- with more deliveries its posts stay, and others come behind them
pub grows : (replies : Replies) (c : Configuration) (delivered more : List (List ℕ)) →
    (behind : List Post) × ((actor_after replies c (delivered ++ more)).made ≡ (actor_after replies c delivered).made ++ behind)
grows replies c delivered [] = (
  [],
  ap (λ (d : List (List ℕ)). (actor_after replies c d).made) (append-nil delivered)
      ∙ sym (append-nil (actor_after replies c delivered).made),
)
grows replies c delivered (bytes ∷ more) =
    let one = posts_grow replies c delivered bytes in
    let others = grows replies c (delivered ++ bytes ∷ []) more in (
      one.0 ++ others.0,
      ap (λ (d : List (List ℕ)). (actor_after replies c d).made) (sym (append_assoc delivered (bytes ∷ []) more))
          ∙ others.1
          ∙ ap (λ (p : List Post). p ++ others.0) one.1
          ∙ append_assoc (actor_after replies c delivered).made one.0 others.0,
    )

-- the entries of a post don't depend on what was delivered
pub with-same : (seat : Seat) (delivered : List (List ℕ)) (post : Post) (second : Option (List ℕ)) →
    entries_with (record seat { delivered = delivered }) post second ≡ entries_with seat post second
with-same seat delivered post None = refl
with-same seat delivered post (Some content) = refl

-- an entry of a member stays one behind more deliveries
entries-more : (seat : Seat) (more : List (List ℕ)) (entry : Entry) → Contains (entries_beyond 0 seat) entry →
    Contains (entries_beyond 0 (record seat { delivered = seat.delivered ++ more })) entry
unfolding entries_beyond
entries-more seat more entry c =
    let after : Seat = record seat { delivered = seat.delivered ++ more } in
    let found = contains-flat (entries_of seat) (actor_of seat).made entry c in
    let grown = grows (faulty_replies (faulty_member seat.fault seat.config.number)) seat.config seat.delivered more in
    let there : Contains (actor_of after).made found.0
    = subst (λ (posts : List Post). Contains posts found.0) (sym grown.1)
    (Contains-append_left (actor_of seat).made grown.0 found.0 found.1) in
    let same : entries_of after found.0 ≡ entries_of seat found.0
    = with-same seat (seat.delivered ++ more) found.0 (second_content seat.fault (shape_in seat.config) found.0) in
    contains-flat-from (entries_of after) (actor_of after).made found.0 entry there
    (subst (λ (entries : List Entry). Contains entries entry) (sym same) found.2)

-- and behind an entry that is carried
entries-stay : (carriage : Carriage) (carried : Entry) (seat : Seat) (entry : Entry) → Contains (entries_beyond 0 seat) entry →
    Contains (entries_beyond 0 (seat_behind carriage carried seat)) entry
unfolding seat_behind
entries-stay carriage carried seat entry c =
    let bytes : List (List ℕ) = replicate carriage.repeat (post_spelling carried.post) in
    choose (λ (s : Seat). Contains (entries_beyond 0 s) entry) (is_for seat.config.number carried)
    (record seat { delivered = seat.delivered ++ bytes }) seat (λ _. entries-more seat bytes entry c) (λ _. c)

-- what it posts beyond its first posts are entries of it
entries-among : (before : ℕ) (seat : Seat) (entry : Entry) → Contains (entries_beyond before seat) entry
    → Contains (entries_beyond 0 seat) entry
unfolding entries_beyond
entries-among before seat entry c =
    let found = contains-flat (entries_of seat) (drop before (actor_of seat).made) entry c in
    contains-flat-from (entries_of seat) (actor_of seat).made found.0 entry (contains-drop before (actor_of seat).made found.0 found.1)
    found.2

-- ---- a world

-- each entry on its way is one of a member, and what was delivered was posted
pub record IsPosted (seats : List Seat) (queue : List Entry) : Type 0 where
  pub entries : (entry : Entry) → Contains queue entry → (sender : Seat) × Contains seats sender × Contains (entries_beyond 0 sender) entry
  pub delivered : ArePosted seats

module _ (carriage : Carriage) (seats : List Seat) (carried : Entry) (others : List Entry) (is : IsPosted seats (carried ∷ others)) where
  moved : (sender : Seat) (entry : Entry) → Contains seats sender → Contains (entries_beyond 0 sender) entry →
      (after : Seat) × Contains (map (seat_behind carriage carried) seats) after × Contains (entries_beyond 0 after) entry
  moved sender entry there posted = (
    seat_behind carriage carried sender,
    contains-map-from (seat_behind carriage carried) seats sender there,
    entries-stay carriage carried sender entry posted,
  )

  entries-posted : (entry : Entry) → Contains (others ++ flat_map (entries_behind carriage carried) seats) entry →
      (after : Seat) × Contains (map (seat_behind carriage carried) seats) after × Contains (entries_beyond 0 after) entry
  entries-posted entry c = elim (Contains-append_cases others (flat_map (entries_behind carriage carried) seats) entry c) [
    | inl old ↦ (let p = is.entries entry (contains-later carried others entry old) in moved p.0 entry p.1 p.2)
    | inr new ↦ (let found = contains-flat (entries_behind carriage carried) seats entry new in (
      seat_behind carriage carried found.0,
      contains-map-from (seat_behind carriage carried) seats found.0 found.1,
      entries-among (length (actor_of found.0).made) (seat_behind carriage carried found.0) entry found.2,
    ))
  ]

  -- what came earlier
  earlier : (receiver : Seat) (bytes : List ℕ) → Contains seats receiver → Contains receiver.delivered bytes →
      (sender : Seat) × Contains (map (seat_behind carriage carried) seats) sender × ComesFrom sender receiver bytes
  earlier receiver bytes there c =
      let p = is.delivered receiver bytes there c in
      let after = moved p.0 p.2.entry p.1 p.2.posted in
      (after.0, after.1, record { entry = p.2.entry; posted = after.2; goes = p.2.goes; spelled = p.2.spelled })

  -- what came with the entry
  with-entry : (receiver : Seat) (bytes : List ℕ) → is_for receiver.config.number carried ≡ true → bytes ≡ post_spelling carried.post →
      (sender : Seat) × Contains (map (seat_behind carriage carried) seats) sender × ComesFrom sender receiver bytes
  with-entry receiver bytes goes spelled =
      let p = is.entries carried (contains-here carried others) in
      let after = moved p.0 carried p.1 p.2 in
      (after.0, after.1, record { entry = carried; posted = after.2; goes = goes; spelled = spelled })

  -- the same of a receiver with other deliveries
  as-given : (receiver : Seat) (delivered : List (List ℕ)) (bytes : List ℕ) →
      (sender : Seat) × Contains (map (seat_behind carriage carried) seats) sender × ComesFrom sender receiver bytes →
      (sender : Seat) × Contains (map (seat_behind carriage carried) seats) sender
      × ComesFrom sender (record receiver { delivered = delivered }) bytes
  as-given receiver delivered bytes p =
      (p.0, p.1, record { entry = p.2.entry; posted = p.2.posted; goes = p.2.goes; spelled = p.2.spelled })

  receiver-posted : (receiver : Seat) (bytes : List ℕ) → Contains seats receiver
      → Contains (seat_behind carriage carried receiver).delivered bytes →
      (sender : Seat) × Contains (map (seat_behind carriage carried) seats) sender
      × ComesFrom sender (seat_behind carriage carried receiver) bytes
  unfolding seat_behind
  receiver-posted receiver bytes there =
      let strings : List (List ℕ) = replicate carriage.repeat (post_spelling carried.post) in
      choose (λ (s : Seat). Contains s.delivered bytes →
      (sender : Seat) × Contains (map (seat_behind carriage carried) seats) sender × ComesFrom sender s bytes)
      (is_for receiver.config.number carried) (record receiver { delivered = receiver.delivered ++ strings }) receiver
      (λ goes c. elim (Contains-append_cases receiver.delivered strings bytes c) [
        | inl old ↦ as-given receiver (receiver.delivered ++ strings) bytes (earlier receiver bytes there old)
        | inr new ↦ as-given receiver (receiver.delivered ++ strings) bytes
            (with-entry receiver bytes goes (contains-replicate carriage.repeat (post_spelling carried.post) bytes new))
      ])
      (λ _ c. earlier receiver bytes there c)

  all-posted : ArePosted (map (seat_behind carriage carried) seats)
  all-posted receiver bytes there c =
      let found = contains-map (seat_behind carriage carried) seats receiver there in
      subst (λ (r : Seat). Contains r.delivered bytes →
      (sender : Seat) × Contains (map (seat_behind carriage carried) seats) sender × ComesFrom sender r bytes) found.2
      (receiver-posted found.0 bytes found.1) c

  pub entry-posted : IsPosted (world_behind_entry carriage seats carried others).seats
      (world_behind_entry carriage seats carried others).queue
  entry-posted =
      choose (λ (w : World). IsPosted w.seats w.queue) (is_dropped carriage carried) (record { seats = seats; queue = others })
      (record { seats = map (seat_behind carriage carried) seats; queue = others ++ flat_map (entries_behind carriage carried) seats })
      (λ _. record { entries = λ entry c. is.entries entry (contains-later carried others entry c); delivered = is.delivered })
      (λ _. record { entries = entries-posted; delivered = all-posted })

queue-posted : (carriage : Carriage) (world : World) (queue : List Entry) → world.queue ≡ queue → IsPosted world.seats queue →
    IsPosted (world_behind_queue carriage world queue).seats (world_behind_queue carriage world queue).queue
queue-posted carriage world [] e is = subst (IsPosted world.seats) (sym e) is
queue-posted carriage world (entry ∷ others) e is = entry-posted carriage world.seats entry others is

step-posted : (carriage : Carriage) (world : World) → IsPosted world.seats world.queue →
    IsPosted (world_behind_step carriage world).seats (world_behind_step carriage world).queue
unfolding world_behind_step
step-posted carriage world is = queue-posted carriage world world.queue refl is

steps-posted : (carriage : Carriage) (n : ℕ) (world : World) → IsPosted world.seats world.queue →
    IsPosted (iterate (world_behind_step carriage) n world).seats (iterate (world_behind_step carriage) n world).queue
steps-posted carriage zero world is = is
steps-posted carriage (suc n) world is = steps-posted carriage n (world_behind_step carriage world) (step-posted carriage world is)

first-posted : (seats : List Seat) → ((seat : Seat) → Contains seats seat → seat.delivered ≡ []) →
    IsPosted (first_world seats).seats (first_world seats).queue
unfolding first_world
first-posted seats empty = record {
  entries = λ entry c. contains-flat (entries_beyond 0) seats entry c;
  delivered = λ receiver bytes there c.
      absurd (contains-nothing bytes (subst (λ (strings : List (List ℕ)). Contains strings bytes) (empty receiver there) c));
}

pub deliveries_were_posted : DeliveriesWerePosted
unfolding last_world
deliveries_were_posted carriage seats empty =
    (steps-posted carriage (greatest_steps seats) (first_world seats) (first-posted seats empty)).delivered
