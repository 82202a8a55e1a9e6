-- Nothing is forged among the keys that were said.
use Rattle.std.proofs.Common.{◌≡◌, ℕ, suc, ◌+◌, ◌*◌, List, [], length, map, Result, Ok, ap, sym, ◌∙◌, subst, arith, inl, inr}
use Rattle.std.specs.Prelude.{All, Contains, IsSome, ◌==◌, option_and_then}
use Rattle.std.specs.List.{range_with_len}
use Rattle.std.proofs.lemmas.Bool.{eq-eqb}
use Rattle.std.proofs.lemmas.List.Elements.{All-contains}
use Rattle.wire_core.specs.declared.cursor.Short.{Short}
use Rattle.phase_message.specs.declared.header.Header.{Header}
use Rattle.phase_message.specs.declared.post.Post.{Post}
use Rattle.phase_message.specs.Header.{header_of}
use Rattle.phase_message.specs.Post.{post_spelling}
use Rattle.phase_message.specs.Slots.{stage_count}
use Rattle.phase_message.specs.Stages.{kind_of_stage, vote_of}
use Rattle.phase_message.proofs.Whole.{content-header}
use Rattle.group_roster.specs.Roster.{Roster, shape_of_roster}
use Rattle.signed_post.specs.Frame.{frame_of}
use Rattle.signed_post.proofs.Frames.{framed-again}
use Rattle.stage_log.specs.Table.{kept_in}
use Rattle.round_spec.specs.Say.{Configuration, own_header, shape_in}
use Rattle.round_spec.specs.Runs.{IsConfiguration, Run, Sent, contents_sent, own_slot, posts_said, runs_of, sent}
use Rattle.round_spec.specs.Beginnings.{KeysAreNotForged, keys_post, keys_run}
use Rattle.round_spec.proofs.Beginnings.{keys-admitted, keys-there}
use Rattle.round_spec.proofs.Contained.{contains-filter-from, contains-filter_map-from, contains-flat-from, contains-here, contains-map, contains-map-from}

post-same : (a b : Post) (r : Result Post ℕ) → r ≡ Ok a → r ≡ Ok b → a ≡ b
post-same a b r e e' = let both = sym e ∙ e' in cc

header-same : (a b : Header) (r : Result Header Short) → r ≡ Ok a → r ≡ Ok b → a ≡ b
header-same a b r e e' = let both = sym e ∙ e' in cc

-- a string that is given is the post of somebody's keys
record IsKeysOf (configs : List Configuration) (bytes : List ℕ) (post : Post) : Type 0 where
  pub config : Configuration
  pub listed : Contains configs config
  pub is : post ≡ keys_post config

given-keys : (configs : List Configuration) (bytes : List ℕ) (post : Post) → All IsConfiguration configs
    → Contains (map (λ c. post_spelling (keys_post c)) configs) bytes
    → frame_of bytes ≡ Ok post → IsKeysOf configs bytes post
given-keys configs bytes post all given spelled =
    let found = contains-map (λ (c : Configuration). post_spelling (keys_post c)) configs bytes given in
    let is = All-contains IsConfiguration configs found.0 all found.1 in
    record {
      config = found.0;
      listed = found.1;
      is = post-same post (keys_post found.0) (frame_of bytes) spelled
          (sym (ap frame_of found.2) ∙ framed-again (keys_post found.0) (keys-admitted found.0 is).frame);
    }

range-first : (n : ℕ) → Contains (range_with_len 0 (suc n)) 0
range-first n = contains-here 0 (range_with_len 1 n)

-- its run sent it
keys-sent : (c : Configuration) → IsConfiguration c → Contains (sent (keys_run c)) (keys_post c).content
unfolding sent
keys-sent c is =
    let stages : stage_count (shape_in c) ≡ suc (2 * length c.roster.keys + 9) = omega arith in
    contains-map-from (λ (post : Post). post.content) (posts_said (keys_run c)) (keys_post c)
    (contains-filter_map-from (λ stage. kept_in (keys_run c).log (own_slot (keys_run c) stage))
    (range_with_len 0 (stage_count (shape_in c))) 0 (keys_post c)
    (subst (λ (n : ℕ). Contains (range_with_len 0 n) 0) (sym stages) (range-first (2 * length c.roster.keys + 9))) (keys-there c is))

keys-listed : (configs : List Configuration) (c : Configuration) (number : ℕ) → IsConfiguration c → Contains configs c → c.number ≡ number
    → Sent (map keys_run configs) number (keys_post c).content
unfolding contents_sent
keys-listed configs c number is listed same =
    contains-flat-from sent (runs_of (map keys_run configs) number) (keys_run c) (keys_post c).content
    (contains-filter-from (λ (run : Run). run.config.number == number) (map keys_run configs) (keys_run c)
    (contains-map-from keys_run configs c listed) (eq-eqb c.number number same))
    (keys-sent c is)

-- keys close nothing
not-closing : (roster : Roster) (stage : ℕ) → stage ≡ 0 → IsSome (option_and_then vote_of (kind_of_stage (shape_of_roster roster) stage))
    → ⊥
not-closing roster stage first closing = nothing_closes (subst (λ (s : ℕ). IsSome
    (option_and_then vote_of (kind_of_stage (shape_of_roster roster) s))) first closing)
  where
    nothing_closes : IsSome (option_and_then vote_of (kind_of_stage (shape_of_roster roster) 0)) → ⊥
    nothing_closes closes = cc

pub keys_are_not_forged : KeysAreNotForged
keys_are_not_forged roster configs all one bytes post header (inl given) spelled admitted numbered =
    let keys = given-keys configs bytes post all given spelled in
    let is = All-contains IsConfiguration configs keys.config all keys.listed in
    let own = (keys-admitted keys.config is).reads in
    let headers = header-same header (own_header keys.config [] 0) (header_of post.content) admitted.reads
    (ap (λ (p : Post). header_of p.content) keys.is ∙ own) in
    subst (λ (p : Post). Sent (map keys_run configs) header.sender p.content) (sym keys.is)
    (keys-listed configs keys.config header.sender is keys.listed (sym (ap (λ (h : Header). h.sender) headers)))
keys_are_not_forged roster configs all one bytes post header (inr (outer, given, embedded)) spelled admitted numbered =
    let keys = given-keys configs outer embedded.post all given embedded.spelled in
    let is = All-contains IsConfiguration configs keys.config all keys.listed in
    let own = (keys-admitted keys.config is).reads in
    let headers = header-same embedded.content.header (own_header keys.config [] 0) (header_of embedded.post.content)
    (content-header (shape_of_roster roster) embedded.post.content embedded.content embedded.reads)
    (ap (λ (p : Post). header_of p.content) keys.is ∙ own) in
    absurd (not-closing roster embedded.content.header.stage (ap (λ (h : Header). h.stage) headers) embedded.closing)
