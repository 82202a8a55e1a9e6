-- Where no post is lost, whatever a member posts is delivered to each other.
use Rattle.std.proofs.Common.{◌≡◌, ◌⊎◌, ℕ, zero, suc, ◌≤◌, true, false, List, [], ◌∷◌, ◌++◌, length, drop, map, ap, sym, ◌∙◌, refl, subst, arith, inl, inr}
use Rattle.std.specs.Prelude.{Contains, Result, Ok, Err, replicate}
use Rattle.std.specs.Fn.{iterate}
use Rattle.std.specs.List.{flat_map}
use Rattle.std.proofs.lemmas.Bool.{false≢true}
use Rattle.std.proofs.lemmas.List.Elements.{Contains-append_cases, Contains-append_left, Contains-append_right}
use Rattle.wire_core.specs.declared.cursor.Short.{Short}
use Rattle.phase_message.specs.declared.header.Header.{Header}
use Rattle.phase_message.specs.declared.post.Post.{Post}
use Rattle.phase_message.specs.declared.stage.Slot.{Slot}
use Rattle.phase_message.specs.Header.{header_of}
use Rattle.phase_message.specs.Post.{post_spelling}
use Rattle.round_spec.specs.Say.{shape_in}
use Rattle.round_spec.proofs.Contained.{contains-cases, contains-flat, contains-flat-from, contains-here, contains-map, contains-nothing}
use Rattle.group_spec.specs.Faulty.{faulty_member, faulty_replies}
use Rattle.group_spec.specs.World.{Carriage, Entry, Seat, World, actor_of, entries_behind, entries_beyond, entries_of, first_world, greatest_steps, is_dropped, is_for, is_of_slots, last_world, seat_behind, second_content, world_behind_queue, world_behind_step}
use Rattle.group_spec.proofs.Deliveries.{grows, with-same}
use Rattle.group_spec.proofs.Made.{choose}
use Rattle.group_spec.proofs.Queues.{queues_empty}

-- ---- lists

drop-front : {A : Type 0} (xs ys : List A) → drop (length xs) (xs ++ ys) ≡ ys
drop-front [] ys = refl
drop-front (x ∷ xs) ys = drop-front xs ys

contains-replicate : (n : ℕ) (bytes : List ℕ) → 1 ≤ n → Contains (replicate n bytes) bytes
contains-replicate zero bytes some = absurd (omega (arith, some))
contains-replicate (suc n) bytes some = contains-here bytes (replicate n bytes)

-- ---- a member behind an entry

-- the entries of a member that got more are those from before, and those of its new posts
more-entries : (seat : Seat) (more : List (List ℕ)) (entry : Entry)
    → Contains (entries_beyond 0 (record seat { delivered = seat.delivered ++ more })) entry
    → Contains (entries_beyond 0 seat) entry
    ⊎ Contains (entries_beyond (length (actor_of seat).made) (record seat { delivered = seat.delivered ++ more })) entry
unfolding entries_beyond
more-entries seat more entry there =
    let after : Seat = record seat { delivered = seat.delivered ++ more } in
    let found = contains-flat (entries_of after) (actor_of after).made entry there in
    let grown = grows (faulty_replies (faulty_member seat.fault seat.config.number)) seat.config seat.delivered more in
    let same : entries_of after found.0 ≡ entries_of seat found.0
    = with-same seat (seat.delivered ++ more) found.0 (second_content seat.fault (shape_in seat.config) found.0) in
    let left : drop (length (actor_of seat).made) (actor_of after).made ≡ grown.0
    = ap (λ (posts : List Post). drop (length (actor_of seat).made) posts) grown.1 ∙ drop-front (actor_of seat).made grown.0 in
    elim (Contains-append_cases (actor_of seat).made grown.0 found.0
    (subst (λ (posts : List Post). Contains posts found.0) grown.1 found.1)) [
      | inl old ↦ inl (contains-flat-from (entries_of seat) (actor_of seat).made found.0 entry old
          (subst (λ (entries : List Entry). Contains entries entry) same found.2))
      | inr new ↦ inr (contains-flat-from (entries_of after) (drop (length (actor_of seat).made) (actor_of after).made) found.0 entry
          (subst (λ (posts : List Post). Contains posts found.0) (sym left) new) found.2)
    ]

behind-entries : (carriage : Carriage) (carried : Entry) (seat : Seat) (entry : Entry)
    → Contains (entries_beyond 0 (seat_behind carriage carried seat)) entry
    → Contains (entries_beyond 0 seat) entry
    ⊎ Contains (entries_beyond (length (actor_of seat).made) (seat_behind carriage carried seat)) entry
unfolding seat_behind
behind-entries carriage carried seat entry =
    let more : List (List ℕ) = replicate carriage.repeat (post_spelling carried.post) in
    choose (λ (s : Seat). Contains (entries_beyond 0 s) entry
    → Contains (entries_beyond 0 seat) entry ⊎ Contains (entries_beyond (length (actor_of seat).made) s) entry)
    (is_for seat.config.number carried) (record seat { delivered = seat.delivered ++ more }) seat
    (λ _. more-entries seat more entry) (λ _ there. inl there)

behind-number : (carriage : Carriage) (carried : Entry) (seat : Seat) → (seat_behind carriage carried seat).config.number ≡ seat.config.number
unfolding seat_behind
behind-number carriage carried seat = choose (λ (s : Seat). s.config.number ≡ seat.config.number) (is_for seat.config.number carried)
    (record seat { delivered = seat.delivered ++ replicate carriage.repeat (post_spelling carried.post) }) seat (λ _. refl) (λ _. refl)

behind-keeps : (carriage : Carriage) (carried : Entry) (seat : Seat) (bytes : List ℕ) → Contains seat.delivered bytes
    → Contains (seat_behind carriage carried seat).delivered bytes
unfolding seat_behind
behind-keeps carriage carried seat bytes there = choose (λ (s : Seat). Contains s.delivered bytes) (is_for seat.config.number carried)
    (record seat { delivered = seat.delivered ++ replicate carriage.repeat (post_spelling carried.post) }) seat
    (λ _. Contains-append_left seat.delivered (replicate carriage.repeat (post_spelling carried.post)) bytes there) (λ _. there)

behind-gets : (carriage : Carriage) (carried : Entry) (seat : Seat) → 1 ≤ carriage.repeat → is_for seat.config.number carried ≡ true
    → Contains (seat_behind carriage carried seat).delivered (post_spelling carried.post)
unfolding seat_behind
behind-gets carriage carried seat some goes = choose (λ (s : Seat). Contains s.delivered (post_spelling carried.post))
    (is_for seat.config.number carried)
    (record seat { delivered = seat.delivered ++ replicate carriage.repeat (post_spelling carried.post) }) seat
    (λ _. Contains-append_right seat.delivered (replicate carriage.repeat (post_spelling carried.post)) (post_spelling carried.post)
    (contains-replicate carriage.repeat (post_spelling carried.post) some))
    (λ not_for. absurd (false≢true (sym not_for ∙ goes)))

-- ---- a world

-- an entry is on its way, or was delivered to all that get it
abbrev IsOnItsWay : List Seat → List Entry → Entry → Type 0
IsOnItsWay seats queue entry = Contains queue entry
    ⊎ ((receiver : Seat) → Contains seats receiver → is_for receiver.config.number entry ≡ true
    → Contains receiver.delivered (post_spelling entry.post))

AreCarried : List Seat → List Entry → Type 0
AreCarried seats queue = (sender : Seat) (entry : Entry) → Contains seats sender → Contains (entries_beyond 0 sender) entry
    → IsOnItsWay seats queue entry

nothing-dropped : (carriage : Carriage) (entry : Entry) → carriage.drops ≡ [] → is_dropped carriage entry ≡ false
nothing-dropped carriage entry none = ap (λ (slots : List Slot). is_of_slots slots (header_of entry.post.content)) none
    ∙ no-slots (header_of entry.post.content)
  where
    no-slots : (r : Result Header Short) → is_of_slots [] r ≡ false
    no-slots (Ok header) = refl
    no-slots (Err short) = refl

module _ (carriage : Carriage) (some : 1 ≤ carriage.repeat) (none : carriage.drops ≡ []) where
  still-so : (seats : List Seat) (carried : Entry) (others more : List Entry) (entry : Entry) → IsOnItsWay seats (carried ∷ others) entry
      → IsOnItsWay (map (seat_behind carriage carried) seats) (others ++ more) entry
  still-so seats carried others more entry (inr delivered) = inr (λ receiver there goes. (
      let found = contains-map (seat_behind carriage carried) seats receiver there in
      let its : is_for found.0.config.number entry ≡ true
      = ap (λ (n : ℕ). is_for n entry) (sym (behind-number carriage carried found.0) ∙ ap (λ (s : Seat). s.config.number) found.2) ∙ goes in
      subst (λ (s : Seat). Contains s.delivered (post_spelling entry.post)) found.2
      (behind-keeps carriage carried found.0 (post_spelling entry.post) (delivered found.0 found.1 its))))
  still-so seats carried others more entry (inl queued) = elim (contains-cases carried others entry queued) [
    | inr later ↦ inl (Contains-append_left others more entry later)
    | inl now ↦ inr (λ receiver there goes. (
        let found = contains-map (seat_behind carriage carried) seats receiver there in
        let its : is_for found.0.config.number carried ≡ true
        = ap (λ (n : ℕ). is_for n carried) (sym (behind-number carriage carried found.0) ∙ ap (λ (s : Seat). s.config.number) found.2)
        ∙ ap (is_for receiver.config.number) now ∙ goes in
        subst (λ (s : Seat). Contains s.delivered (post_spelling entry.post)) found.2
        (subst (λ (e : Entry). Contains (seat_behind carriage carried found.0).delivered (post_spelling e.post)) now
        (behind-gets carriage carried found.0 some its))))
  ]

  entry-carried : (seats : List Seat) (carried : Entry) (others : List Entry) → ((sender : Seat) (entry : Entry) → Contains seats sender
      → Contains (entries_beyond 0 sender) entry → IsOnItsWay seats (carried ∷ others) entry)
      → (sender : Seat) (entry : Entry) → Contains (map (seat_behind carriage carried) seats) sender
      → Contains (entries_beyond 0 sender) entry
      → IsOnItsWay (map (seat_behind carriage carried) seats) (others ++ flat_map (entries_behind carriage carried) seats) entry
  entry-carried seats carried others all sender entry there posted =
      let found = contains-map (seat_behind carriage carried) seats sender there in
      let more : List Entry = flat_map (entries_behind carriage carried) seats in
      elim (behind-entries carriage carried found.0 entry
      (subst (λ (s : Seat). Contains (entries_beyond 0 s) entry) (sym found.2) posted)) [
        | inl old ↦ still-so seats carried others more entry (all found.0 entry found.1 old)
        | inr new ↦ inl (Contains-append_right others more entry
            (contains-flat-from (entries_behind carriage carried) seats found.0 entry found.1 new))
      ]

  queue-carried : (world : World) (queue : List Entry) → world.queue ≡ queue → ((sender : Seat) (entry : Entry) → Contains world.seats sender
      → Contains (entries_beyond 0 sender) entry → IsOnItsWay world.seats queue entry)
      → (sender : Seat) (entry : Entry) → Contains (world_behind_queue carriage world queue).seats sender
      → Contains (entries_beyond 0 sender) entry
      → IsOnItsWay (world_behind_queue carriage world queue).seats (world_behind_queue carriage world queue).queue entry
  queue-carried world [] e all = subst (λ (q : List Entry). (sender : Seat) (entry : Entry) → Contains world.seats sender
      → Contains (entries_beyond 0 sender) entry → IsOnItsWay world.seats q entry) (sym e) all
  queue-carried world (carried ∷ others) e all =
      choose (λ (w : World). (sender : Seat) (entry : Entry) → Contains w.seats sender → Contains (entries_beyond 0 sender) entry
      → IsOnItsWay w.seats w.queue entry) (is_dropped carriage carried) (record { seats = world.seats; queue = others })
      (record {
        seats = map (seat_behind carriage carried) world.seats;
        queue = others ++ flat_map (entries_behind carriage carried) world.seats;
      })
      (λ lost. absurd (false≢true (sym (nothing-dropped carriage carried none) ∙ lost)))
      (λ _. entry-carried world.seats carried others all)

  steps-carried : (n : ℕ) (world : World) → ((sender : Seat) (entry : Entry) → Contains world.seats sender
      → Contains (entries_beyond 0 sender) entry → IsOnItsWay world.seats world.queue entry)
      → (sender : Seat) (entry : Entry) → Contains (iterate (world_behind_step carriage) n world).seats sender
      → Contains (entries_beyond 0 sender) entry
      → IsOnItsWay (iterate (world_behind_step carriage) n world).seats (iterate (world_behind_step carriage) n world).queue entry
  unfolding world_behind_step
  steps-carried zero world all = all
  steps-carried (suc n) world all =
      steps-carried n (world_behind_queue carriage world world.queue) (queue-carried world world.queue refl all)

  first-carried : (seats : List Seat) (sender : Seat) (entry : Entry) → Contains (first_world seats).seats sender
      → Contains (entries_beyond 0 sender) entry → IsOnItsWay (first_world seats).seats (first_world seats).queue entry
  unfolding first_world
  first-carried seats sender entry there posted = inl (contains-flat-from (entries_beyond 0) seats sender entry there posted)

  last-carried : (seats : List Seat) (sender : Seat) (entry : Entry) → Contains (last_world carriage seats).seats sender
      → Contains (entries_beyond 0 sender) entry → IsOnItsWay (last_world carriage seats).seats (last_world carriage seats).queue entry
  unfolding last_world
  last-carried seats = steps-carried (greatest_steps seats) (first_world seats) (first-carried seats)

  -- when all is carried, each entry was delivered to all that get it
  pub all-carried : (seats : List Seat) (sender receiver : Seat) (entry : Entry) → Contains (last_world carriage seats).seats sender
      → Contains (last_world carriage seats).seats receiver → Contains (entries_beyond 0 sender) entry
      → is_for receiver.config.number entry ≡ true → Contains receiver.delivered (post_spelling entry.post)
  all-carried seats sender receiver entry there others posted goes = elim (last-carried seats sender entry there posted) [
    | inl queued ↦ absurd (contains-nothing entry (subst (λ (q : List Entry). Contains q entry) (queues_empty carriage seats) queued))
    | inr delivered ↦ delivered receiver others goes
  ]
