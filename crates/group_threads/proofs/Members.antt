-- A player goes on to stand for its member: when it begins, with each delivery, and with each post that is handed out.
use Rattle.std.proofs.Common.{◌≡◌, ℕ, zero, suc, ◌+◌, ◌-◌, ◌<◌, ◌≤◌, Bool, true, false, List, [], ◌∷◌, ◌++◌, Option, Some, None, length, drop, map, ap, sym, ◌∙◌, refl, subst, arith, append_assoc, append-nil}
use Rattle.std.specs.Prelude.{option_map, min, nat_le, not, ◌==◌, ◌&&◌, replicate, Result, Ok, Err, IfOk}
use Rattle.std.specs.List.{flat_map, slice_get}
use Rattle.std.proofs.lemmas.Bool.{and_parts, cond-false, cond-true, leb-true}
use Rattle.std.proofs.lemmas.List.{map-append}
use Rattle.std.proofs.lemmas.Option.{slice_get_within}
use Rattle.phase_message.specs.declared.post.Post.{Post}
use Rattle.phase_message.specs.Post.{post_spelling}
use Rattle.round_spec.specs.Say.{Configuration, shape_in}
use Rattle.phase_message.specs.Offence.{content_read}
use Rattle.phase_message.specs.Shape.{Shape}
use Rattle.phase_message.specs.Stages.{shape_of}
use Rattle.round_script.specs.declared.fault.Fault.{Fault}
use Rattle.round_script.specs.declared.fault.Fault.TheVariants.{TwoVotes}
use Rattle.round_spec.specs.Runs.{CanEnter}
use Rattle.member_spec.specs.Replies.{Replies}
use Rattle.member_core.specs.Membership.{Membership, handed_next, posts_made}
use Rattle.member_core.specs.Stands.{Stands}
use Rattle.faulty_member.specs.declared.faulty.Faulty.{Faulty}
use Rattle.group_spec.specs.Faulty.{faulty_member, faulty_replies}
use Rattle.group_spec.specs.World.{Carriage, Entry, Seat, actor_of, entries_beyond, entries_of, entries_with, is_for, other_vote, seat_behind, second_content, signed_with}
use Rattle.group_threads.specs.declared.queue.Entry.{Entry as Held}
use Rattle.group_threads.specs.declared.player.Player.{Player}
use Rattle.group_threads.specs.Playing.{IsSending, IsSpare, Plays, held_entries, posts_of, replies_of, second_written, written_entry}

-- what a member answers at the start
abbrev pub start-of : Seat → Replies
start-of seat = faulty_replies (faulty_member seat.fault seat.config.number)

-- ---- lists

-- what stands at a place is the first behind those before it
pub drop-get : {A : Type 0} (xs : List A) (k : ℕ) (x : A) → slice_get xs k ≡ Some x → drop k xs ≡ x ∷ drop (k + 1) xs
drop-get [] k x e = absurd cc
drop-get (y ∷ ys) zero x e = let same : y ≡ x = cc in ap (λ z. z ∷ ys) same
drop-get (y ∷ ys) (suc k) x e = let same : suc (k + 1) ≡ suc k + 1 = omega arith in drop-get ys k x e ∙ ap (λ n. x ∷ drop n (y ∷ ys)) same

-- where nothing stands at a place, nothing stands behind it
pub drop-none : {A : Type 0} (xs : List A) (k : ℕ) → slice_get xs k ≡ None → drop k xs ≡ []
drop-none [] zero e = refl
drop-none [] (suc k) e = refl
drop-none (y ∷ ys) zero e = absurd cc
drop-none (y ∷ ys) (suc k) e = drop-none ys k e

pub length-none : {A : Type 0} (xs : List A) (k : ℕ) → slice_get xs k ≡ None → length xs ≤ k
length-none [] k e = omega arith
length-none (y ∷ ys) zero e = absurd cc
length-none (y ∷ ys) (suc k) e = let below = length-none ys k e in omega (arith, below)

-- what a choice is of that is there, and that nothing is there
pub mapped-some : {A B : Type 0} (f : A → B) (o : Option A) (y : B) → Some y ≡ option_map f o → (x : A) × (o ≡ Some x) × (y ≡ f x)
mapped-some f None y e = absurd cc
mapped-some f (Some x) y e = (x, refl, cc)

pub mapped-none : {A B : Type 0} (f : A → B) (o : Option A) → None ≡ option_map f o → o ≡ None
mapped-none f None e = refl
mapped-none f (Some x) e = absurd cc

-- ---- the posts of a member

-- a player has made the posts of its member
pub made-is : (player : Player) (seat : Seat) (count : ℕ) → Plays player seat count → posts_made player.member.holds ≡ (actor_of seat).made
made-is player seat count plays = plays.stands.stands.at.made

-- the entries of one post more
pub beyond-next : (seat : Seat) (k : ℕ) (post : Post) → slice_get (actor_of seat).made k ≡ Some post →
    entries_beyond k seat ≡ entries_of seat post ++ entries_beyond (k + 1) seat
unfolding entries_beyond
beyond-next seat k post e = ap (λ (posts : List Post). flat_map (entries_of seat) posts) (drop-get (actor_of seat).made k post e)

pub beyond-all : (seat : Seat) (k : ℕ) → slice_get (actor_of seat).made k ≡ None → entries_beyond k seat ≡ []
unfolding entries_beyond
beyond-all seat k e = ap (λ (posts : List Post). flat_map (entries_of seat) posts) (drop-none (actor_of seat).made k e)

-- the entries of a post are held so
pub held-with : (seat : Seat) (post : Post) (content : Option (List ℕ)) → seat.config.number < 255 →
    map written_entry (entries_with seat post content)
    ≡ held_entries seat.config.number (shape_in seat.config).members (post_spelling post)
    (option_map (λ content. post_spelling (signed_with seat.spare content)) content)
held-with seat post None small = refl
held-with seat post (Some content) small =
    let same : seat.config.number + 1 ≡ min (seat.config.number + 1) 255 = omega arith in
    ap (λ (n : ℕ). record { sender = seat.config.number; bytes = post_spelling post; first = 1; last = seat.config.number - 1 }
    ∷ record { sender = seat.config.number; bytes = post_spelling (signed_with seat.spare content); first = n; last = (shape_in seat.config).members }
    ∷ []) same

-- ---- one post more

-- the number of a member is one of eight
pub number-small : (c : Configuration) → CanEnter c → c.number < 255
number-small c can =
    let parts = and_parts (nat_le 1 c.number) (nat_le c.number (shape_in c).members) can.member in
    omega (arith, leb-true c.number (shape_in c).members parts.1, can.roster.most)

-- behind one post more
pub sent : (old new : Player) (member : Membership Faulty) (held after all : List Held) (seat : Seat) (bytes : List ℕ) (second : Option (List ℕ)) →
    IsSending old held seat all →
    Some bytes ≡ option_map post_spelling (slice_get (posts_made old.member.holds) old.member.holds.handed) →
    (Stands replies_of (start-of seat) seat.config seat.delivered old.member → Stands replies_of (start-of seat) seat.config seat.delivered member) →
    member.holds.handed ≡ old.member.holds.handed + 1 →
    ((post : Post) → Plays (record old { member = member }) seat (old.member.holds.handed + 1) → bytes ≡ post_spelling post → second ≡ second_written seat post) →
    new ≡ record old { member = member; spare = new.spare } → (IsSpare seat.spare old.spare → IsSpare seat.spare new.spare) →
    after ≡ held ++ held_entries old.number old.shape.members bytes second →
    IsSending new after seat all
sent old new member held after all seat bytes second sending written stands counted makes same spare put =
    let h : ℕ = old.member.holds.handed in
    let p = sending.plays in
    let got = mapped-some post_spelling (slice_get (posts_made old.member.holds) h) bytes written in
    let post : Post = got.0 in
    let at : slice_get (actor_of seat).made h ≡ Some post = subst (λ (l : List Post). slice_get l h ≡ Some post) (made-is old seat h p) got.1 in
    let second-is : second ≡ second_written seat post = makes post (record {
      stands = stands p.stands;
      handed = counted;
      number = p.number;
      shape = p.shape;
      fault = p.fault;
      spare = p.spare;
      delivered = p.delivered;
    }) got.2 in
    let members : old.shape.members ≡ (shape_in seat.config).members = ap (λ (s : Shape). s.members) p.shape in
    let entries : held_entries old.number old.shape.members bytes second ≡ map written_entry (entries_of seat post) =
    ap (λ (n : ℕ). held_entries n old.shape.members bytes second) p.number
    ∙ ap (λ (n : ℕ). held_entries seat.config.number n bytes second) members
    ∙ ap (λ (b : List ℕ). held_entries seat.config.number (shape_in seat.config).members b second) got.2
    ∙ ap (λ (o : Option (List ℕ)). held_entries seat.config.number (shape_in seat.config).members (post_spelling post) o) second-is
    ∙ sym (held-with seat post (second_content seat.fault (shape_in seat.config) post) (number-small seat.config p.stands.stands.can_enter)) in
    let left : after ++ map written_entry (entries_beyond member.holds.handed seat) ≡ all =
    ap (λ (k : ℕ). after ++ map written_entry (entries_beyond k seat)) counted
    ∙ ap (λ (l : List Held). l ++ map written_entry (entries_beyond (h + 1) seat)) (put ∙ ap (λ (l : List Held). held ++ l) entries)
    ∙ append_assoc held (map written_entry (entries_of seat post)) (map written_entry (entries_beyond (h + 1) seat))
    ∙ ap (λ (l : List Held). held ++ l) (sym (map-append written_entry (entries_of seat post) (entries_beyond (h + 1) seat))
    ∙ ap (λ (l : List Entry). map written_entry l) (sym (beyond-next seat h post at)))
    ∙ sending.left in
    subst (λ (player : Player). IsSending player after seat all) (sym same) (record {
      plays = record {
        stands = stands p.stands;
        handed = refl;
        number = p.number;
        shape = p.shape;
        fault = p.fault;
        spare = spare p.spare;
        delivered = p.delivered;
      };
      left = left;
    })

-- at the start of its posts
pub sending-first : (player : Player) (held : List Held) (seat : Seat) (count : ℕ) → Plays player seat count →
    IsSending player held seat (held ++ map written_entry (entries_beyond count seat))
sending-first player held seat count p = record {
  plays = subst (λ (k : ℕ). Plays player seat k) (sym p.handed) p;
  left = ap (λ (k : ℕ). held ++ map written_entry (entries_beyond k seat)) p.handed;
}

-- and when all are handed out
pub record HasSent (player : Player) (held : List Held) (seat : Seat) (all : List Held) : Type 0 where
  pub plays : Plays player seat (posts_of seat)
  pub entries : held ≡ all

pub sent-all : (player : Player) (held all : List Held) (seat : Seat) → IsSending player held seat all →
    None ≡ option_map post_spelling (slice_get (posts_made player.member.holds) player.member.holds.handed) →
    player.member.holds.handed ≤ length (posts_made player.member.holds) → HasSent player held seat all
sent-all player held all seat sending none room =
    let h : ℕ = player.member.holds.handed in
    let made = made-is player seat h sending.plays in
    let nothing = mapped-none post_spelling (slice_get (posts_made player.member.holds) h) none in
    let at : slice_get (actor_of seat).made h ≡ None = subst (λ (l : List Post). slice_get l h ≡ None) made nothing in
    let past = length-none (posts_made player.member.holds) h nothing in
    let same : h ≡ posts_of seat = omega (arith, past, room, ap (λ (l : List Post). length l) made) in
    record {
      plays = subst (λ (k : ℕ). Plays player seat k) same sending.plays;
      entries = sym (append-nil held) ∙ ap (λ (l : List Entry). held ++ map written_entry l) (sym (beyond-all seat h at)) ∙ sending.left;
    }

-- a post that is handed out was among those that were not
pub posts-fewer : (posts : List Post) (k : ℕ) (bytes : List ℕ) → Some bytes ≡ option_map post_spelling (slice_get posts k) → k < length posts
posts-fewer posts k bytes e = (let got = mapped-some post_spelling (slice_get posts k) bytes e in slice_get_within posts k got.0 got.1)

-- so what is left falls
pub fewer-left : {B : Type 0} (old new : Membership Faulty) (bytes : List ℕ) (b : B) → new ≡ handed_next old (Some b) →
    Some bytes ≡ option_map post_spelling (slice_get (posts_made old.holds) old.holds.handed) →
    length (posts_made new.holds) - new.holds.handed < length (posts_made old.holds) - old.holds.handed
fewer-left old new bytes b e written =
    let within : old.holds.handed < length (posts_made old.holds) = posts-fewer (posts_made old.holds) old.holds.handed bytes written in
    subst (λ (m : Membership Faulty). length (posts_made m.holds) - m.holds.handed < length (posts_made old.holds) - old.holds.handed) (sym e)
    (omega (arith, within))

-- ---- a second post

pub two-votes : (player : Player) (seat : Seat) (count : ℕ) (post : Post) → Plays player seat count → player.fault ≡ TwoVotes →
    option_map (λ content. post_spelling (signed_with seat.spare content)) (other_vote (shape_of player.shape) (content_read (shape_of player.shape) post.content))
    ≡ second_written seat post
two-votes player seat count post p is =
    let f : List ℕ → List ℕ = λ content. post_spelling (signed_with seat.spare content) in
    ap (λ (s : Shape). option_map f (other_vote s (content_read s post.content))) p.shape
    ∙ ap (λ (fault : Fault). option_map f (second_content fault (shape_in seat.config) post)) (sym (sym p.fault ∙ is))

-- ---- one entry

pub behind-for : (carriage : Carriage) (entry : Entry) (seat : Seat) → is_for seat.config.number entry ≡ true →
    seat_behind carriage entry seat ≡ record seat { delivered = seat.delivered ++ replicate carriage.repeat (post_spelling entry.post) }
unfolding seat_behind
behind-for carriage entry seat is = cond-true (is_for seat.config.number entry) _ _ is

pub behind-not : (carriage : Carriage) (entry : Entry) (seat : Seat) → is_for seat.config.number entry ≡ false → seat_behind carriage entry seat ≡ seat
unfolding seat_behind
behind-not carriage entry seat is = cond-false (is_for seat.config.number entry) _ _ is

-- whether an entry that is held is for a member
pub held-for : (player : Player) (seat : Seat) (count : ℕ) (held : Held) (entry : Entry) → Plays player seat count → held ≡ written_entry entry →
    (not (player.number == held.sender) && (nat_le held.first player.number && nat_le player.number held.last)) ≡ is_for seat.config.number entry
held-for player seat count held entry p is =
    ap (λ (n : ℕ). not (n == held.sender) && (nat_le held.first n && nat_le n held.last)) p.number
    ∙ ap (λ (h : Held). not (seat.config.number == h.sender) && (nat_le h.first seat.config.number && nat_le seat.config.number h.last)) is

-- a member that got an entry, and one that did not
pub took : (carriage : Carriage) (new : Player) (seat : Seat) (count times : ℕ) (held : Held) (entry : Entry) → carriage.repeat ≡ times → held ≡ written_entry entry →
    is_for seat.config.number entry ≡ true → Plays new (record seat { delivered = seat.delivered ++ replicate times held.bytes }) count →
    Plays new (seat_behind carriage entry seat) count
took carriage new seat count times held entry repeat is for p =
    let same : replicate times held.bytes ≡ replicate carriage.repeat (post_spelling entry.post) =
    ap (λ (n : ℕ). replicate n held.bytes) (sym repeat) ∙ ap (λ (h : Held). replicate carriage.repeat h.bytes) is in
    subst (λ (s : Seat). Plays new s count) (sym (behind-for carriage entry seat for))
    (subst (λ (l : List (List ℕ)). Plays new (record seat { delivered = seat.delivered ++ l }) count) same p)

-- ---- what is Ok

pub ok-so : {A E : Type 0} (r : Result A E) (P Q : A → Type 0) → IfOk r P → ((x : A) → P x → Q x) → IfOk r Q
ok-so (Ok x) P Q p so = so x p
ok-so (Err e) P Q p so = tt
