-- A member that has entered a round and said nothing.
use Rattle.std.proofs.Common.{◌≡◌, ℕ, zero, suc, ◌+◌, ◌<◌, ◌≤◌, ◌^◌, Bool, true, false, List, [], ◌∷◌, ◌++◌, length, replicate, Option, Some, None, ap, sym, ◌∙◌, refl, subst, arith, inl, inr}
use Rattle.std.specs.Prelude.{IfSome, nat_lt, not, ◌&&◌, if◌then◌else◌}
use Rattle.std.specs.List.{slice_get}
use Rattle.std.specs.Option.{option_flatten}
use Rattle.std.proofs.lemmas.Bool.{cases_Bool, cond-false, false_from_ne_true, ltb-true}
use Rattle.std.proofs.lemmas.List.{length-replicate}
use Rattle.std.proofs.lemmas.List.Elements.{All-replicate}
use Rattle.wire_core.specs.Bytes.{IsBytes}
use Rattle.lms_tree.specs.Secret.{leaves}
use Rattle.lms_tree.specs.States.{RunState}
use Rattle.phase_message.specs.declared.post.Post.{Post}
use Rattle.phase_message.specs.declared.stage.Slot.{Slot}
use Rattle.phase_message.specs.Shape.{IsShape, Shape}
use Rattle.phase_message.specs.Slots.{slot_count, slot_number, stage_count}
use Rattle.phase_message.specs.Stages.{is_slot, shape_of}
use Rattle.group_roster.specs.Given.{roster_of}
use Rattle.group_roster.specs.Roster.{shape_of_roster}
use Rattle.stage_log.specs.declared.seen.Seen.{Seen}
use Rattle.stage_log.specs.Seen.{HasSeen}
use Rattle.stage_log.specs.Table.{IsKept, IsLog, Log, empty_log, kept_in}
use Rattle.bulk_descriptor.specs.declared.making.TheConstants.{MESSAGE_LIMIT}
use Rattle.round_spec.specs.Say.{own_pad_seeds}
use Rattle.round_spec.specs.Slots.{final_stage, submit_stage}
use Rattle.honest_say.specs.declared.seat.Seat.{Seat}
use Rattle.honest_say.specs.Seats.{IsSeatOf}
use Rattle.honest_say.proofs.StageLemmas.{member-there}
use Rattle.member_spec.specs.declared.mood.Mood.TheVariants.{Unasked}
use Rattle.member_spec.specs.Actor.{first_actor}
use Rattle.member_spec.specs.Replies.{Replies}
use Rattle.member_spec.proofs.Moves.{filter-none}
use Rattle.member_parts.specs.declared.config.Config.{Config}
use Rattle.member_parts.specs.declared.ending.Ending.TheVariants.{Open}
use Rattle.member_parts.specs.declared.own.Own.{Own}
use Rattle.member_parts.specs.declared.secrets.Secrets.{Secrets}
use Rattle.member_parts.specs.Secrets.{AreAll, AreSecretsOf}
use Rattle.member_core.specs.declared.machine.Machine.{Machine}
use Rattle.member_core.specs.Membership.{holdings_of, own_posts_kept}
use Rattle.member_core.specs.Sound.{IsSound}
use Rattle.member_core.specs.Stands.{StandsFor, configuration_of}
use Rattle.member_core.proofs.Belonging.{no-pad}

-- ---- an empty log

no_post : Option Post
no_post = None

get-none : (n i : ℕ) → option_flatten (slice_get (replicate n no_post) i) ≡ no_post
unfolding no_post
get-none zero i = refl
get-none (suc n) zero = refl
get-none (suc n) (suc i) = get-none n i

pub kept-empty : (shape : Shape) (slot : Slot) → kept_in (empty_log shape) slot ≡ None
unfolding no_post
kept-empty shape slot = elim (cases_Bool (is_slot shape slot.stage slot.sender)) [
  | inl speaks ↦ ap (λ (b : Bool). if b then option_flatten (slice_get (replicate (slot_count shape) no_post)
      (slot_number shape slot.stage slot.sender)) else None) speaks
      ∙ get-none (slot_count shape) (slot_number shape slot.stage slot.sender)
  | inr silent ↦ cond-false (is_slot shape slot.stage slot.sender)
      (option_flatten (slice_get (replicate (slot_count shape) no_post) (slot_number shape slot.stage slot.sender))) None silent
]

pub empty-is-log : (shape : Shape) → IsShape shape.version shape.members → IsLog (empty_log shape)
unfolding no_post
empty-is-log shape is = record {
  shape = is;
  places = length-replicate (slot_count shape) no_post;
  contents = All-replicate (λ kept. IfSome kept (λ (post : Post). IsKept post.content)) (slot_count shape) no_post tt;
}

none-made : (shape : Shape) (number : ℕ) → (let none : List Post = [] in own_posts_kept (empty_log shape) number ≡ none)
unfolding own_posts_kept
none-made shape number = filter-none (λ stage. kept_in (empty_log shape) (record { stage = stage; sender = number })) 0 (stage_count shape)
    (λ stage from lt. kept-empty shape (record { stage = stage; sender = number }))

not-below : (n : ℕ) → nat_lt n 0 ≡ false
not-below n = false_from_ne_true (nat_lt n 0) (λ e. (let lt = ltb-true n 0 e in omega arith))

-- ---- the member

-- what a member holds that has just entered
abbrev pub machine_entered : Config → RunState → Log → Secrets → Seat → Seen → Own → Machine
machine_entered config run log secrets seat seen own = record {
  roster = config.roster;
  seat = seat;
  message = config.message;
  leaves = run;
  log = log;
  seen = seen;
  stage = 0;
  mood = Unasked;
  stray = None;
  handed = 0;
  secrets = secrets;
  own = own;
  keys = None;
  opened = None;
  slots = None;
  ending = Open;
}

-- what is known of it
pub record IsEntry (config : Config) (run : RunState) (log : Log) (secrets : Secrets) (seat : Seat) (seen : Seen) (own : Own) : Type 0 where
  pub first : 1 ≤ config.number
  pub last : config.number ≤ length config.roster.keys
  pub short : length config.message ≤ MESSAGE_LIMIT
  pub left : 12 ≤ run.left
  pub log_is : log ≡ empty_log (shape_of_roster (roster_of config.roster))
  pub secrets_are : AreSecretsOf (configuration_of config run) secrets
  pub all : AreAll secrets
  pub seat_is : IsSeatOf (configuration_of config run) seat
  pub seen_is : (past : List (List ℕ)) → HasSeen (shape_of seat.shape) past 0 seen
  pub pad : own.pad ≡ []
  pub round : config.round < 2 ^ 64
  pub bytes : IsBytes config.message
  pub leaves_are : run.first + run.left ≤ leaves run.parts

kept-none : (config : Config) (log : Log) (slot : Slot) → log ≡ empty_log (shape_of_roster (roster_of config.roster))
    → kept_in log slot ≡ None
kept-none config log slot is = ap (λ (l : Log). kept_in l slot) is ∙ kept-empty (shape_of_roster (roster_of config.roster)) slot

pub entered-sound : (config : Config) (run : RunState) (log : Log) (secrets : Secrets) (seat : Seat) (seen : Seen) (own : Own)
    → IsEntry config run log secrets seat seen own → IsSound (machine_entered config run log secrets seat seen own)
entered-sound config run log secrets seat seen own is = record {
  formed = record {
    entered = (
      configuration_of config run,
      record {
        roster = refl;
        seat = is.seat_is;
        message = refl;
        secrets = is.secrets_are;
        hidden = [];
        hidden_short = omega arith;
        pad = is.pad ∙ sym (no-pad (own_pad_seeds (configuration_of config run)) config.number);
      },
    );
    message = is.short;
    log = subst IsLog (sym is.log_is) (empty-is-log (shape_of_roster (roster_of config.roster)) (record {
      first = config.roster.form.version;
      least = config.roster.form.least;
      most = config.roster.form.most;
    }));
    shape = shape-is;
    stand = λ stage sender post e. absurd (none-some post (sym (kept-none config log (record { stage = stage; sender = sender }) is.log_is)
        ∙ e));
    short = λ stage sender post e. absurd (none-some post (sym (kept-none config log (record { stage = stage; sender = sender }) is.log_is)
        ∙ e));
    leaves = (let left = is.left in omega (arith, left));
    handed = omega arith;
    stray = tt;
  };
  ready = λ going. record {
    stage = omega arith;
    past = refl;
    seen = subst (λ (shape : Shape). HasSeen shape [] 0 seen) (sym shape-is) (is.seen_is []);
    keys = refl;
    opened = omega arith;
    slots = omega arith;
    keys_behind = λ some. absurd cc;
    opened_behind = λ some. absurd cc;
    slots_behind = λ some. absurd cc;
    mood = (λ later le. kept-none config log (record { stage = later; sender = seat.number }) is.log_is, refl);
  };
  needed = record {
    first = is.all.first ∙ need (final_stage log.shape 1);
    bulk = is.all.bulk ∙ need (submit_stage log.shape 2);
    second = is.all.second ∙ need (final_stage log.shape 2);
  };
}
  where
    shape-is : log.shape ≡ shape_of seat.shape
    shape-is = ap (λ (l : Log). l.shape) is.log_is ∙ sym is.seat_is.shape

    none-some : (post : Post) → (let none : Option Post = None in none ≡ Some post) → ⊥
    none-some post e = cc

    need : (stage : ℕ) → true ≡ (true && (not false && not (nat_lt stage 0)))
    need stage = sym (ap (λ (b : Bool). true && (not false && not b)) (not-below stage))

pub entered-stands : (config : Config) (run : RunState) (log : Log) (secrets : Secrets) (seat : Seat) (seen : Seen) (own : Own)
    → IsEntry config run log secrets seat seen own → (now : Replies)
    → StandsFor now now (configuration_of config run) (first_actor (configuration_of config run))
    (holdings_of (machine_entered config run log secrets seat seen own))
entered-stands config run log secrets seat seen own is now = record {
  can_enter = record {
    round = is.round;
    bytes = is.bytes;
    roster = config.roster.form;
    member = member-there (length config.roster.keys) config.number is.first is.last;
    message = is.short;
    leaves = (let left = is.left in let all = is.leaves_are in omega (arith, left, all));
  };
  entered = record {
    roster = refl;
    number = is.seat_is.number;
    round = is.seat_is.round;
    message = refl;
    key = refl;
    next = (let none = ap length made in omega (arith, none));
    secrets = is.secrets_are;
  };
  at = record {
    log = is.log_is;
    stage = refl;
    past = refl;
    mood = refl;
    made = made;
    ending = tt;
  };
  conduct = refl;
  own = record {
    descriptor = λ asked. absurd cc;
    pad = λ asked. absurd cc;
    first = λ asked. absurd cc;
    second = λ asked. absurd (let both : false ≡ true = sym (not-below (submit_stage log.shape 2)) ∙ asked in cc);
  };
}
  where
    nothing-more : (xs : List Post) → xs ++ [] ≡ xs
    nothing-more [] = refl
    nothing-more (x ∷ xs) = ap (λ (ys : List Post). x ∷ ys) (nothing-more xs)

    made : (let none : List Post = [] in own_posts_kept log seat.number ++ [] ≡ none)
    made = nothing-more (own_posts_kept log seat.number) ∙ ap (λ (l : Log). own_posts_kept l seat.number) is.log_is
        ∙ none-made (shape_of_roster (roster_of config.roster)) seat.number
