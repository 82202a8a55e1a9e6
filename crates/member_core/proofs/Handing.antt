-- One post more is handed out: what is true of a member stays true, and it stands for the same.
use Rattle.std.proofs.Common.{[], ◌≡◌, ℕ, ◌+◌, ◌<◌, ◌≤◌, List, ◌∷◌, length, length-append, Option, Some, None, ap, ◌∙◌, refl, arith}
use Rattle.std.specs.Prelude.{filter_map, option_map}
use Rattle.std.specs.List.{cons_option, range_with_len, slice_get}
use Rattle.std.specs.Option.{option_to_list}
use Rattle.std.proofs.lemmas.List.FromFn.{length-range_with_len}
use Rattle.std.proofs.lemmas.Option.{slice_get_within}
use Rattle.phase_message.specs.declared.post.Post.{Post}
use Rattle.phase_message.specs.Slots.{stage_count}
use Rattle.phase_message.specs.Post.{post_spelling}
use Rattle.stage_log.specs.Table.{IsLog, Log, kept_in}
use Rattle.round_spec.specs.Result.{posts_of}
use Rattle.round_spec.specs.Runs.{posts_said, run_after}
use Rattle.round_spec.specs.Say.{Configuration}
use Rattle.member_spec.specs.declared.mood.Mood.{Mood}
use Rattle.member_spec.specs.declared.mood.Mood.TheVariants.{Unasked, PutOff, Spoken, Mute}
use Rattle.member_spec.specs.Actor.{Actor}
use Rattle.member_spec.specs.Replies.{IsPlain, Replies}
use Rattle.member_parts.specs.declared.ending.Ending.{Ending}
use Rattle.member_parts.specs.declared.ending.Ending.TheVariants.{Open, Done, Blamed, Stopped}
use Rattle.member_parts.specs.Endings.{IsRunning}
use Rattle.member_core.specs.declared.machine.Machine.{Machine}
use Rattle.member_core.specs.Concluding.{machine_ended}
use Rattle.member_core.specs.Membership.{Holdings, Membership, handed_next, holdings_of, own_posts_kept, posts_made}
use Rattle.member_core.specs.Needs.{HoldsNeeded}
use Rattle.member_core.specs.Promises.{IsPlainMember}
use Rattle.member_core.specs.Sound.{IsFormed, IsSound}
use Rattle.member_core.specs.Stands.{GoesOn, KeepsOwn, Stands, StandsFor}
use Rattle.member_core.proofs.Changes.{formed-bare, ready-else}
use Rattle.member_core.proofs.Promised.{posts-said}
use Rattle.member_core.proofs.Shown.{plain-made}

-- ---- how many posts there are

few : (f : ℕ → Option Post) (xs : List ℕ) → length (filter_map f xs) ≤ length xs
few f [] = omega arith
few f (x ∷ xs) = by_first (f x) (few f xs)
  where
    by_first : (o : Option Post) → length (filter_map f xs) ≤ length xs → length (cons_option o (filter_map f xs)) ≤ length (x ∷ xs)
    by_first None less = omega (arith, less)
    by_first (Some post) less = omega (arith, less)

one-at-most : (o : Option Post) → length (option_to_list o) ≤ 1
one-at-most None = omega arith
one-at-most (Some post) = omega arith

kept-few : (log : Log) (number : ℕ) → length (own_posts_kept log number) ≤ stage_count log.shape
unfolding own_posts_kept
kept-few log number =
    omega (
      arith,
      few (λ stage. kept_in log (record { stage = stage; sender = number })) (range_with_len 0 (stage_count log.shape)),
      length-range_with_len 0 (stage_count log.shape),
    )

made-few : (h : Holdings) → IsLog h.log → length (posts_made h) ≤ 27
made-few h is =
    let most = is.shape.most in
    omega (
      arith,
      length-append (own_posts_kept h.log h.number) (option_to_list h.stray),
      kept-few h.log h.number,
      one-at-most h.stray,
      most,
    )

-- the number of those that were handed out is small
pub handed-small : (m : Machine) (post : Post) → IsFormed m → slice_get (posts_made (holdings_of m)) m.handed ≡ Some post → m.handed < 27
handed-small m post formed e =
    omega (arith, slice_get_within (posts_made (holdings_of m)) m.handed post e, made-few (holdings_of m) formed.log)

-- ---- what is true of it

abbrev pub with_handed : Machine → ℕ → Machine
with_handed m n = record m { handed = n }

pub needed-handed : (h : Holdings) (n : ℕ) → HoldsNeeded h → HoldsNeeded (record h { handed = n })
needed-handed h n is = record { first = is.first; bulk = is.bulk; second = is.second }

pub handed-sound : (m : Machine) (post : Post) → IsSound m → slice_get (posts_made (holdings_of m)) m.handed ≡ Some post
    → IsSound (with_handed m (m.handed + 1))
handed-sound m post is e =
    let f = is.formed in record {
      formed = record {
        entered = f.entered;
        message = f.message;
        log = f.log;
        shape = f.shape;
        stand = f.stand;
        short = f.short;
        leaves = f.leaves;
        handed = (let lt = slice_get_within (posts_made (holdings_of m)) m.handed post e in omega (arith, lt));
        stray = f.stray;
      };
      ready = λ going. (let r = is.ready going in ready-else m m.leaves m.stray (m.handed + 1) m.secrets m.own m.mood r.mood r);
      needed = needed-handed (holdings_of m) (m.handed + 1) is.needed;
    }

-- a member that is stopped
pub stopped-sound : (m : Machine) → IsFormed m → IsSound (machine_ended m Stopped)
stopped-sound m f = record {
  formed = formed-bare m m.mood Stopped f;
  ready = λ going. absurd going;
  needed = record { first = refl; bulk = refl; second = refl };
}

-- ---- for what it stands

own-handed : (start : Replies) (c : Configuration) (h : Holdings) (n : ℕ) (mood : Mood) → KeepsOwn start c h mood
    → KeepsOwn start c (record h { handed = n }) mood
own-handed start c h n Mute is = tt
own-handed start c h n Unasked is = record { descriptor = is.descriptor; pad = is.pad; first = is.first; second = is.second }
own-handed start c h n (PutOff bytes) is = record { descriptor = is.descriptor; pad = is.pad; first = is.first; second = is.second }
own-handed start c h n Spoken is = record { descriptor = is.descriptor; pad = is.pad; first = is.first; second = is.second }

goes-handed : (now start : Replies) (c : Configuration) (h : Holdings) (n : ℕ) (mood : Mood) → GoesOn now start c h mood
    → GoesOn now start c (record h { handed = n }) mood
goes-handed now start c h n Mute is = tt
goes-handed now start c h n Unasked is = is
goes-handed now start c h n (PutOff bytes) is = is
goes-handed now start c h n Spoken is = is

for-handed : (now start : Replies) (c : Configuration) (a : Actor) (h : Holdings) (n : ℕ) → StandsFor now start c a h
    → StandsFor now start c a (record h { handed = n })
for-handed now start c a h n is = record {
  can_enter = is.can_enter;
  entered = is.entered;
  at = record {
    log = is.at.log;
    stage = is.at.stage;
    past = is.at.past;
    mood = is.at.mood;
    made = is.at.made;
    ending = is.at.ending;
  };
  conduct = goes-handed now start c h n h.mood is.conduct;
  own = own-handed start c h n h.mood is.own;
}

pub stands-handed : {A B : Type 0} (replies_of : A → Replies) (start : Replies) (c : Configuration) (delivered : List (List ℕ))
    (m : Membership A)
    (post : B)
    → Stands replies_of start c delivered m → Stands replies_of start c delivered (handed_next m (Some post))
stands-handed replies_of start c delivered m post is =
    record { strings = is.strings; stands = for-handed (replies_of m.conduct) start c _ m.holds (m.holds.handed + 1) is.stands }

-- ---- what is handed out

abbrev pub next_made : {A : Type 0} → Membership A → Option Post
next_made m = slice_get (posts_made m.holds) m.holds.handed

-- the next of its posts is the next of those that the deliveries ask for
pub next-plain : {A : Type 0} (replies_of : A → Replies) (start : Replies) (c : Configuration) (delivered : List (List ℕ))
    (m : Membership A)
    (o : Option (List ℕ))
    → o ≡ option_map post_spelling (next_made m) → Stands replies_of start c delivered m → IsPlain start
    → o ≡ option_map post_spelling (slice_get (posts_of c delivered) m.holds.handed)
next-plain replies_of start c delivered m o e stands plain =
    e ∙ ap (λ (posts : List Post). option_map post_spelling (slice_get posts m.holds.handed))
    (plain-made replies_of start c delivered m stands plain)

pub next-said : {A : Type 0} (replies_of : A → Replies) (c : Configuration) (delivered : List (List ℕ)) (m : Membership A)
    (o : Option (List ℕ))
    → o ≡ option_map post_spelling (next_made m) → IsPlainMember replies_of c delivered m
    → o ≡ option_map post_spelling (slice_get (posts_said (run_after c delivered)) m.holds.handed)
next-said replies_of c delivered m o e is =
    next-plain replies_of is.start c delivered m o e is.stands is.plain
    ∙ ap (λ (posts : List Post). option_map post_spelling (slice_get posts m.holds.handed)) (posts-said replies_of c delivered m is)

pub runs-unless : (ending : Ending) → (ending ≡ Stopped → ⊥) → IsRunning ending
runs-unless Open never = tt
runs-unless (Done slots) never = tt
runs-unless (Blamed conviction) never = tt
runs-unless Stopped never = never refl
