-- A post that a member makes: what is true of the member stays true, and it stands for the pure machine behind that post.
use Rattle.std.proofs.Common.{◌≡◌, ℕ, ◌+◌, ◌<◌, ◌≤◌, Bool, true, false, List, [], ◌∷◌, ◌++◌, length, Option, Some, None, ap, sym, ◌∙◌, refl, subst, arith, inl, inr, append-nil, length-append, eq-eqb}
use Rattle.std.specs.Prelude.{◌==◌, ◌&&◌, count_by, is_ok}
use Rattle.std.specs.List.{range_with_len}
use Rattle.std.specs.Option.{option_map, option_to_list}
use Rattle.std.proofs.lemmas.Bool.{cond-false, cond-true}
use Rattle.wire_core.specs.Bytes.{IsBytes}
use Rattle.lms_tree.specs.Secret.{SecretParts, lms_signature, own_public}
use Rattle.lms_tree.specs.States.{RunState}
use Rattle.lms_tree.specs.Tree.{LmsValid}
use Rattle.phase_message.specs.declared.post.Post.{Post}
use Rattle.phase_message.specs.declared.post.TheConstants.{POST_LIMIT}
use Rattle.phase_message.specs.declared.stage.Slot.{Slot}
use Rattle.phase_message.specs.Offence.{content_read}
use Rattle.phase_message.specs.Post.{post_spelling}
use Rattle.phase_message.specs.Shape.{Shape}
use Rattle.phase_message.specs.Stages.{is_slot, kind_of_stage, shape_of}
use Rattle.phase_message.proofs.SlotBounds.{slot-bounds}
use Rattle.group_roster.specs.Roster.{Roster, shape_of_roster}
use Rattle.signed_post.specs.declared.post.TheConstants.{LONGEST_SIGNATURE}
use Rattle.signed_post.proofs.Lengths.{valid-short}
use Rattle.stage_log.specs.Log.{before}
use Rattle.stage_log.specs.Seen.{HasSeen}
use Rattle.stage_log.specs.Put.{put_log}
use Rattle.stage_log.specs.Table.{IsKept, Log, filled, kept_in}
use Rattle.stage_log.proofs.Entries.{filled-is_log}
use Rattle.stage_log.proofs.Fronts.{some_is}
use Rattle.stage_log.proofs.Pasts.{some_of}
use Rattle.go_nogo.specs.Stands.{StandsIn}
use Rattle.shuffle_blame.specs.Asked.{past_of}
use Rattle.round_spec.proofs.PastForms.{spelled-long}
use Rattle.round_spec.specs.Say.{Configuration, number_said_before, own_submission, shape_in, signed_at}
use Rattle.round_spec.specs.Slots.{submit_stage}
use Rattle.round_spec.specs.Course.{is_open}
use Rattle.closing_verdict.specs.Carried.{stage_found, stage_opened}
use Rattle.member_spec.specs.declared.mood.Mood.{Mood}
use Rattle.member_spec.specs.declared.mood.Mood.TheVariants.{Mute, Spoken, Unasked}
use Rattle.member_spec.specs.Actor.{Actor, actor_behind_post, descriptor_made}
use Rattle.member_spec.specs.Outcomes.{outcome_of}
use Rattle.member_spec.specs.Replies.{KeepsSlot, Replies}
use Rattle.member_parts.specs.declared.ending.Ending.{Ending}
use Rattle.member_parts.specs.declared.ending.Ending.TheVariants.{Blamed, Done, Open, Stopped}
use Rattle.member_parts.specs.declared.secrets.Secrets.{Secrets}
use Rattle.member_parts.specs.Endings.{IsOpen, is_going}
use Rattle.member_parts.specs.Secrets.{no_secrets}
use Rattle.member_core.specs.declared.machine.Machine.{Machine}
use Rattle.member_core.specs.Asking.{IsSpeakable, IsToBeAsked, StandsAsked, asked_at}
use Rattle.member_core.specs.Found.{IsOthers}
use Rattle.member_core.specs.Membership.{Holdings, holdings_of, own_posts_kept, posts_made}
use Rattle.member_core.specs.Needs.{HoldsNeeded, was_asked}
use Rattle.member_core.specs.Shorts.{IsShortLog, most_in, own_limit}
use Rattle.member_core.specs.Sound.{IsEmptyFrom, IsFormed, IsMachineOf, IsMoodOf, IsReady, IsSound, slot_here}
use Rattle.member_core.specs.Stands.{HasEntered, IsOwnOf, ShowsOutcome, StandsFor}
use Rattle.member_core.proofs.Changes.{entry-said, held-with, leaf_spent, no-secrets-of, ready-else}
use Rattle.member_core.proofs.OwnPosts.{fewer-said, kept-cases, one-more, own-elsewhere, own-here, said-before}
use Rattle.member_core.proofs.Saying.{filled-stands, ok-read, put-fills, read-kept, read-stands}
use Rattle.member_core.proofs.Storing.{answers-stay, asked-within, before-stays, keys-stay, limit-small, open-shown, opened-stay, past-stays, posts-stay, shown-open, slots-stay, some-mapped}

-- ---- where it speaks

-- a member that is to be asked has said nothing from its stage on
pub record IsSilent (m : Machine) : Type 0 where
  pub empty : IsEmptyFrom m.log m.seat.number m.stage
  pub stray : m.stray ≡ None

pub silent-here : (m : Machine) → IsReady m → IsToBeAsked m → IsSilent m
silent-here m r asked =
    let mood : IsMoodOf m Unasked = subst (IsMoodOf m) asked.unasked r.mood in
    record { empty = mood.0; stray = mood.1 }

-- its slot there is empty
here-others : (m : Machine) → IsToBeAsked m → IsSilent m → IsOthers m.log (m.seat.number + 1) (slot_here m)
here-others m asked silent = record {
  speaks = asked.speaks;
  other = λ same. omega arith;
  empty = silent.empty m.stage (omega arith);
}

made-kept : (m : Machine) → IsSilent m → posts_made (holdings_of m) ≡ own_posts_kept m.log m.seat.number
made-kept m silent =
    ap (λ (o : Option Post). own_posts_kept m.log m.seat.number ++ option_to_list o) silent.stray
    ∙ append-nil (own_posts_kept m.log m.seat.number)

-- a leaf is left for its post
pub leaf-left : (m : Machine) → IsFormed m → IsReady m → IsToBeAsked m → 0 < m.leaves.left
leaf-left m f r asked =
    let silent = silent-here m r asked in
    let fewer = fewer-said m.log m.seat.number m.stage f.log r.past asked.speaks silent.empty in
    let made = ap length (made-kept m silent) in
    let twelve = f.leaves in
    omega (arith, fewer, made, twelve)

-- ---- the post

-- a post is signed with the next leaf of a member, and its content is not too long
pub record IsSigned (m : Machine) (post : Post) : Type 0 where
  pub signed : post.signature ≡ lms_signature m.leaves.parts m.leaves.first post.content
  pub valid : LmsValid (own_public m.leaves.parts) post.content post.signature
  pub short : length post.content ≤ own_limit (kind_of_stage m.log.shape m.stage)

-- and it can be kept in the slot where it speaks
pub record IsOwnContent (m : Machine) (post : Post) : Type 0 where
  pub kept : IsKept post.content
  pub stands : StandsIn m.log.shape (slot_here m) post.content

-- so is a post of bytes that it signed
pub signed-post : (m : Machine) (bytes told signature held : List ℕ) → told ≡ bytes → held ≡ signature
    → signature ≡ lms_signature m.leaves.parts m.leaves.first told → LmsValid (own_public m.leaves.parts) told signature
    → length bytes ≤ own_limit (kind_of_stage m.log.shape m.stage) → IsSigned m (record { content = bytes; signature = held })
signed-post m bytes told signature held same held_is signed valid short = record {
  signed = held_is ∙ signed ∙ ap (lms_signature m.leaves.parts m.leaves.first) same;
  valid = subst (λ (b : List ℕ). LmsValid (own_public m.leaves.parts) b held) same
      (subst (LmsValid (own_public m.leaves.parts) told) (sym held_is) valid);
  short = short;
}

-- what is told of bytes is told of its content
pub told-reads : (m : Machine) (bytes told : List ℕ) (b : Bool) → IsFormed m → told ≡ bytes
    → b ≡ is_ok (content_read (shape_of m.seat.shape) told)
    → is_ok (content_read m.log.shape bytes) ≡ b
told-reads m bytes told b f same value =
    ap (λ (shape : Shape). is_ok (content_read shape bytes)) f.shape
    ∙ ap (λ (t : List ℕ). is_ok (content_read (shape_of m.seat.shape) t)) (sym same) ∙ sym value

-- a content of the grammar for its slot can be kept there
pub own-content : (m : Machine) (post : Post) → IsBytes post.content → is_ok (content_read m.log.shape post.content) ≡ true
    → KeepsSlot m.log.shape (slot_here m) post.content → length post.content ≤ own_limit (kind_of_stage m.log.shape m.stage)
    → IsOwnContent m post
own-content m post are reads keeps short =
    let read = ok-read (content_read m.log.shape post.content) reads in
    let small = limit-small (kind_of_stage m.log.shape m.stage) in
    record {
      kept = read-kept m.log.shape post.content read.0 are read.1 (omega (arith, short, small));
      stands = read-stands m.log.shape (slot_here m) post.content read.0 are read.1 keeps;
    }

-- the member behind a post that it keeps
abbrev pub posted : Machine → Post → Machine
posted m post = record m { leaves = leaf_spent m.leaves; log = filled m.log (slot_here m) post; mood = Spoken }

-- and behind one that it does not keep
abbrev pub strayed : Machine → Post → Machine
strayed m post = record m { leaves = leaf_spent m.leaves; stray = Some post; secrets = no_secrets; mood = Mute }

-- the log goes on to have no post that is too long
short-posted : (m : Machine) (post : Post) → IsFormed m → IsToBeAsked m → IsSigned m post
    → IsShortLog m.seat.number (filled m.log (slot_here m) post)
short-posted m post f asked signed stage sender kept e = elim (kept-cases m.log (slot_here m) (record { stage = stage; sender = sender })
    post kept f.log asked.speaks e) [
      | inl old ↦ f.short stage sender kept old
      | inr new ↦
          let number : ℕ = m.seat.number in
          let most : most_in m.log.shape number stage sender ≡ own_limit (kind_of_stage m.log.shape m.stage) + (4 + LONGEST_SIGNATURE) =
          ap (λ (s : Slot). most_in m.log.shape number s.stage s.sender) new.0
          ∙ cond-true (number == number) (own_limit (kind_of_stage m.log.shape m.stage) + (4 + LONGEST_SIGNATURE)) POST_LIMIT
          (eq-eqb number number refl) in
          let same = ap (λ (p : Post). length (post_spelling p)) new.1 in
          let long = spelled-long post in
          let content = signed.short in
          let signature = valid-short (own_public m.leaves.parts) post.content post.signature signed.valid in
          omega (arith, most, same, long, content, signature)
    ]

-- ---- behind a post that it keeps

made-more : (own more : List Post) (stray : Option Post) (post : Post) → stray ≡ None → more ≡ own ++ post ∷ []
    → more ++ option_to_list stray ≡ (own ++ option_to_list stray) ++ post ∷ []
made-more own more stray post none e =
    ap (λ (o : Option Post). more ++ option_to_list o) none ∙ append-nil more ∙ e
    ∙ sym (ap (λ (posts : List Post). posts ++ post ∷ []) (ap (λ (o : Option Post). own ++ option_to_list o) none ∙ append-nil own))

pub posted-made : (m : Machine) (post : Post) → IsFormed m → IsToBeAsked m → IsSilent m
    → posts_made (holdings_of (posted m post)) ≡ posts_made (holdings_of m) ++ post ∷ []
posted-made m post f asked silent =
    made-more (own_posts_kept m.log m.seat.number) (own_posts_kept (filled m.log (slot_here m) post) m.seat.number) m.stray post
    silent.stray
    (one-more m.log m.seat.number m.stage post f.log asked.speaks silent.empty)

pub posted-formed : (m : Machine) (post : Post) → IsFormed m → IsReady m → IsToBeAsked m → IsSigned m post → IsOwnContent m post
    → IsFormed (posted m post)
posted-formed m post f r asked signed own =
    let silent = silent-here m r asked in
    let left = leaf-left m f r asked in
    let made = ap length (posted-made m post f asked silent) in
    let longer = length-append (posts_made (holdings_of m)) (post ∷ []) in
    record {
      entered = f.entered;
      message = f.message;
      log = filled-is_log m.log (slot_here m) post f.log own.kept;
      shape = f.shape;
      stand = filled-stands m.log (slot_here m) post asked.speaks (silent.empty m.stage (omega arith)) own.stands f.stand;
      short = short-posted m post f asked signed;
      stray = f.stray;
      leaves = (let was = f.leaves in omega (arith, made, longer, was, left));
      handed = (let was = f.handed in omega (arith, made, longer, was));
    }

pub posted-ready : (m : Machine) (post : Post) → IsFormed m → IsReady m → IsToBeAsked m → IsReady (posted m post)
posted-ready m post f r asked =
    let silent = silent-here m r asked in
    let others = here-others m asked silent in
    let past = some_of (before m.log m.stage) r.past in
    record {
      stage = r.stage;
      past = some_is (before (filled m.log (slot_here m) post) m.stage) past.0
          (before-stays m.log (m.seat.number + 1) (slot_here m) post m.stage past.0 others past.1);
      seen = subst (λ (said : List (List ℕ)). HasSeen m.log.shape said m.stage m.seen)
          (sym (past-stays m.log (m.seat.number + 1) (slot_here m) post m.stage m.stage others r.past (omega arith))) r.seen;
      keys = keys-stay m.log (slot_here m) post m.stage m.keys
          (λ there. past-stays m.log (m.seat.number + 1) (slot_here m) post 1 m.stage others r.past (r.keys_behind there)) r.keys;
      opened = opened-stay m.log (slot_here m) post m.stage (option_map (λ items. items.items) m.opened)
          (λ there. past-stays m.log (m.seat.number + 1) (slot_here m) post (stage_opened m.log) m.stage others r.past
          (r.opened_behind (some-mapped (λ items. items.items) m.opened there))) r.opened;
      slots = slots-stay m.log (slot_here m) post m.stage m.slots
          (λ there. past-stays m.log (m.seat.number + 1) (slot_here m) post (stage_found m.log) m.stage others r.past
          (r.slots_behind there)) r.slots;
      keys_behind = r.keys_behind;
      opened_behind = r.opened_behind;
      slots_behind = r.slots_behind;
      mood = (
        λ later le. own-elsewhere m.log m.seat.number m.stage later post asked.speaks (λ e. omega arith) ∙ silent.empty later (omega arith),
        silent.stray,
        some_is (kept_in (filled m.log (slot_here m) post) (slot_here m)) post
            (own-here m.log m.seat.number m.stage post f.log asked.speaks),
      );
    }

pub posted-sound : (m : Machine) (post : Post) → IsFormed m → IsReady m → IsSpeakable m → IsSigned m post → IsOwnContent m post
    → IsSound (posted m post)
posted-sound m post f r able signed own =
    let n : HoldsNeeded (asked_at (holdings_of m) Spoken) = able.needed in
    record {
      formed = posted-formed m post f r able.to_be_asked signed own;
      ready = λ still. posted-ready m post f r able.to_be_asked;
      needed = record { first = n.first; bulk = n.bulk; second = n.second };
    }

-- ---- behind a post that it does not keep

pub strayed-made : (m : Machine) (post : Post) → IsSilent m → posts_made (holdings_of (strayed m post)) ≡ posts_made (holdings_of m)
    ++ post ∷ []
strayed-made m post silent =
    sym (ap (λ (posts : List Post). posts ++ post ∷ []) (made-kept m silent))

pub strayed-formed : (m : Machine) (post : Post) → IsFormed m → IsReady m → IsToBeAsked m → IsSigned m post → IsFormed (strayed m post)
strayed-formed m post f r asked signed =
    let silent = silent-here m r asked in
    let left = leaf-left m f r asked in
    let made = ap length (strayed-made m post silent) in
    let longer = length-append (posts_made (holdings_of m)) (post ∷ []) in
    record {
      entered = (f.entered.0, held-with f.entered.0 m no_secrets f.entered.1 (no-secrets-of f.entered.0));
      message = f.message;
      log = f.log;
      shape = f.shape;
      stand = f.stand;
      short = f.short;
      stray = (let short = signed.short in let small = limit-small (kind_of_stage m.log.shape m.stage) in omega (arith, short, small));
      leaves = (let was = f.leaves in omega (arith, made, longer, was, left));
      handed = (let was = f.handed in omega (arith, made, longer, was));
    }

-- ---- mute

-- a member that says nothing more
abbrev pub muted : Machine → Machine
muted m = record m { secrets = no_secrets; mood = Mute }

-- it carries what it did
pub mute-ready : (m : Machine) (leaves : RunState) (stray : Option Post) → IsReady m → IsToBeAsked m
    → IsReady (record m { leaves = leaves; stray = stray; secrets = no_secrets; mood = Mute })
mute-ready m leaves stray r asked =
    ready-else m leaves stray m.handed no_secrets m.own Mute ((silent-here m r asked).empty, asked.speaks) r

and-none : (b : Bool) → false ≡ (b && false)
and-none true = refl
and-none false = refl

-- and a mute member needs no secret
pub mute-needed : (h : Holdings) → h.secrets ≡ no_secrets → h.mood ≡ Mute → HoldsNeeded h
mute-needed h bare mute = subst HoldsNeeded (sym same) (record {
  first = and-none (is_going h.ending);
  bulk = and-none (is_going h.ending);
  second = and-none (is_going h.ending);
})
  where
    same : h ≡ record h { secrets = no_secrets; mood = Mute }
    same = ap (λ (s : Secrets). record h { secrets = s }) bare ∙ ap (λ (mood : Mood). record h { secrets = no_secrets; mood = mood }) mute

pub strayed-sound : (m : Machine) (post : Post) → IsFormed m → IsReady m → IsToBeAsked m → IsSigned m post → IsSound (strayed m post)
strayed-sound m post f r asked signed = record {
  formed = strayed-formed m post f r asked signed;
  ready = λ still. mute-ready m (leaf_spent m.leaves) (Some post) r asked;
  needed = mute-needed (holdings_of (strayed m post)) refl refl;
}

-- ---- the pure machine

-- the round of a member is that of what it entered with
pub round-shape : (c : Configuration) (m : Machine) → IsFormed m → HasEntered c (holdings_of m) → m.log.shape ≡ shape_in c
round-shape c m f entered =
    let e : IsMachineOf f.entered.0 m = f.entered.1 in
    f.shape ∙ e.seat.shape ∙ ap (λ (roster : Roster). shape_of_roster roster) (sym e.roster ∙ entered.roster)

-- it has used as many leaves as it has spoken before
leaf-is : (c : Configuration) (m : Machine) → IsFormed m → IsReady m → IsToBeAsked m → HasEntered c (holdings_of m)
    → m.leaves.first ≡ c.first + number_said_before c m.stage
unfolding number_said_before
leaf-is c m f r asked entered =
    let silent = silent-here m r asked in
    let within = (slot-bounds m.log.shape m.stage m.seat.number asked.speaks).0 in
    entered.next ∙ ap (λ (posts : List Post). c.first + length posts) (made-kept m silent)
    ∙ ap (λ (k : ℕ). c.first + k) (said-before m.log m.seat.number m.stage f.log r.past (omega (arith, within)) silent.empty
    ∙ ap (λ (s : Shape). count_by (λ earlier. is_slot s earlier m.seat.number) (range_with_len 0 m.stage)) (round-shape c m f entered)
    ∙ ap (λ (number : ℕ). count_by (λ earlier. is_slot (shape_in c) earlier number) (range_with_len 0 m.stage)) entered.number)

-- so its post is that of the pure machine
pub post-is : (c : Configuration) (a : Actor) (m : Machine) (post : Post) → IsFormed m → IsReady m → IsToBeAsked m → IsSigned m post
    → HasEntered c (holdings_of m) → m.stage ≡ a.stand.at → post ≡ signed_at c a.stand.at post.content
post-is c a m post f r asked signed entered at =
    ap (λ (s : List ℕ). record { content = post.content; signature = s }) (signed.signed
    ∙ ap (λ (key : SecretParts). lms_signature key m.leaves.first post.content) entered.key
    ∙ ap (λ (leaf : ℕ). lms_signature c.key leaf post.content) (leaf-is c m f r asked entered
    ∙ ap (λ (stage : ℕ). c.first + number_said_before c stage) at))

-- what an open round shows hangs on nothing else
pub shows-open : (c : Configuration) (a b : Actor) (ending : Ending) → IsOpen ending → b.ending ≡ a.ending
    → ShowsOutcome ending (outcome_of c a)
    → ShowsOutcome ending (outcome_of c b)
shows-open c a b Open still same shows = shown-open c b (ap is_open same ∙ open-shown c a shows)
shows-open c a b (Done slots) still same shows = absurd still
shows-open c a b (Blamed conviction) still same shows = absurd still
shows-open c a b Stopped still same shows = absurd still

-- behind a post that it keeps the member stands for the pure machine that keeps it
pub posted-stands : (now start : Replies) (c : Configuration) (a : Actor) (m : Machine) (post : Post) → IsFormed m → IsReady m
    → IsToBeAsked m
    → IsSigned m post → is_ok (content_read m.log.shape post.content) ≡ true → StandsAsked now start c a (holdings_of m)
    → StandsFor now start c (actor_behind_post c a (signed_at c a.stand.at post.content)) (holdings_of (posted m post))
posted-stands now start c a m post f r asked signed reads s =
    subst (λ (x : Actor). StandsFor now start c x (holdings_of (posted m post))) (sym behind) (record {
      can_enter = s.can_enter;
      entered = entry-said c (holdings_of m) post _ m.secrets made s.entered s.entered.secrets;
      at = record {
        log = log_is;
        stage = s.at.stage;
        past = before-stays m.log (m.seat.number + 1) (slot_here m) post m.stage a.stand.past others s.at.past;
        mood = refl;
        made = made ∙ ap (λ (posts : List Post). posts ++ post ∷ []) s.at.made ∙ ap (λ (p : Post). a.made ++ p ∷ []) same;
        ending = shows-open c a next m.ending asked.going refl s.at.ending;
      };
      conduct = answers-stay now start c (past_of m.log 1) (past_of log 1) (was_asked m.stage Spoken 1) (past_same 1) s.conduct;
      own = record {
        descriptor = λ was. made_own.descriptor was
            ∙ ap (descriptor_made start c) (sym (posts-stay m.log (m.seat.number + 1) (slot_here m) post 1 m.stage others r.past
            (asked-within m.stage Spoken 1 was)));
        pad = made_own.pad;
        first = λ was not_yet. made_own.first was not_yet
            ∙ ap (λ (past : List (List ℕ)). (own_submission c m.own.descriptor past 1).inner_ciphertext) (sym (past_same 1 was));
        second = λ was. made_own.second was
            ∙ ap (λ (past : List (List ℕ)). (own_submission c m.own.descriptor past 2).inner_ciphertext)
            (sym (past_same (submit_stage m.log.shape 2) was));
      };
    })
  where
    silent : IsSilent m
    silent = silent-here m r asked

    others : IsOthers m.log (m.seat.number + 1) (slot_here m)
    others = here-others m asked silent

    log : Log
    log = filled m.log (slot_here m) post

    made_own : IsOwnOf start c (asked_at (holdings_of m) Spoken)
    made_own = s.own

    same : post ≡ signed_at c a.stand.at post.content
    same = post-is c a m post f r asked signed s.entered s.at.stage

    made : posts_made (holdings_of (posted m post)) ≡ posts_made (holdings_of m) ++ post ∷ []
    made = posted-made m post f asked silent

    next : Actor
    next = record a {
      log = filled a.log (record { stage = a.stand.at; sender = c.number }) (signed_at c a.stand.at post.content);
      mood = Spoken;
      made = a.made ++ signed_at c a.stand.at post.content ∷ [];
    }

    behind : actor_behind_post c a (signed_at c a.stand.at post.content) ≡ next
    behind = cond-true (is_ok (content_read (shape_in c) post.content)) _ _
        (ap (λ (shape : Shape). is_ok (content_read shape post.content))
        (sym (round-shape c m f s.entered)) ∙ reads)

    log_is : log ≡ filled a.log (record { stage = a.stand.at; sender = c.number }) (signed_at c a.stand.at post.content)
    log_is = ap (λ (l : Log). filled l (slot_here m) post) s.at.log
        ∙ ap (λ (stage : ℕ). filled a.log (record { stage = stage; sender = m.seat.number }) post) s.at.stage
        ∙ ap (λ (number : ℕ). filled a.log (record { stage = a.stand.at; sender = number }) post) s.entered.number
        ∙ ap (λ (p : Post). filled a.log (record { stage = a.stand.at; sender = c.number }) p) same

    past_same : (stage : ℕ) → was_asked m.stage Spoken stage ≡ true → past_of log stage ≡ past_of m.log stage
    past_same stage was = past-stays m.log (m.seat.number + 1) (slot_here m) post stage m.stage others r.past
        (asked-within m.stage Spoken stage was)

-- and behind one that it does not keep for the mute one
pub strayed-stands : (now start : Replies) (c : Configuration) (a : Actor) (m : Machine) (post : Post) → IsFormed m → IsReady m
    → IsToBeAsked m
    → IsSigned m post → is_ok (content_read m.log.shape post.content) ≡ false → StandsAsked now start c a (holdings_of m)
    → StandsFor now start c (actor_behind_post c a (signed_at c a.stand.at post.content)) (holdings_of (strayed m post))
strayed-stands now start c a m post f r asked signed outside s =
    subst (λ (x : Actor). StandsFor now start c x (holdings_of (strayed m post))) (sym behind) (record {
      can_enter = s.can_enter;
      entered = entry-said c (holdings_of m) post _ no_secrets made s.entered (no-secrets-of c);
      at = record {
        log = s.at.log;
        stage = s.at.stage;
        past = s.at.past;
        mood = refl;
        made = made ∙ ap (λ (posts : List Post). posts ++ post ∷ []) s.at.made
            ∙ ap (λ (p : Post). a.made ++ p ∷ []) (post-is c a m post f r asked signed s.entered
            s.at.stage);
        ending = shows-open c a next m.ending asked.going refl s.at.ending;
      };
      conduct = tt;
      own = tt;
    })
  where
    made : posts_made (holdings_of (strayed m post)) ≡ posts_made (holdings_of m) ++ post ∷ []
    made = strayed-made m post (silent-here m r asked)

    next : Actor
    next = record a { mood = Mute; made = a.made ++ signed_at c a.stand.at post.content ∷ [] }

    behind : actor_behind_post c a (signed_at c a.stand.at post.content) ≡ next
    behind = cond-false (is_ok (content_read (shape_in c) post.content)) _ _
        (ap (λ (shape : Shape). is_ok (content_read shape post.content))
        (sym (round-shape c m f s.entered)) ∙ outside)

-- ---- as the code holds it

-- the log that the code puts the post into
pub put-here : (m : Machine) (post : Post) (slot : Slot) (log : Log) → IsReady m → IsToBeAsked m → slot ≡ slot_here m
    → log ≡ put_log m.log slot post
    → log ≡ filled m.log (slot_here m) post
put-here m post slot log r asked here put =
    put ∙ ap (λ (s : Slot). put_log m.log s post) here ∙ put-fills m.log (slot_here m) post
    ((silent-here m r asked).empty m.stage (omega arith))

-- what is said of the member behind a post is so of the code, which has these leaves and this log
pub posted-so : (P : Machine → Type 0) (m : Machine) (post : Post) (leaves : RunState) (log : Log) → leaves ≡ leaf_spent m.leaves
    → log ≡ filled m.log (slot_here m) post → P (posted m post) → P (record m { leaves = leaves; log = log; mood = Spoken })
posted-so P m post leaves log spent filled_is so =
    subst (λ (l : RunState). P (record m { leaves = l; log = log; mood = Spoken })) (sym spent)
    (subst (λ (l : Log). P (record m { leaves = leaf_spent m.leaves; log = l; mood = Spoken })) (sym filled_is) so)

pub strayed-so : (P : Machine → Type 0) (m n : Machine) (post : Post) (leaves : RunState) → leaves ≡ leaf_spent m.leaves
    → n ≡ record m { leaves = leaves; stray = Some post; secrets = no_secrets; mood = Mute } → P (strayed m post) → P n
strayed-so P m n post leaves spent e so =
    subst P (sym e) (subst (λ (l : RunState). P (record m { leaves = l; stray = Some post; secrets = no_secrets; mood = Mute })) (sym spent)
    so)
