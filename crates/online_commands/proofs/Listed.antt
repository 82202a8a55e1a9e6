-- A member that is read from its words and files is one of its group.
use Rattle.std.proofs.Common.{◌≡◌, refl, sym, ap, ◌∙◌, subst, ℕ, suc, ◌<◌, ◌≤◌, ◌==◌, Bool, true, false, List, length, take, drop, get_or, Option, Some, None, Result, Ok, Err, arith, length-drop}
use Rattle.std.specs.Prelude.{bytes_eq, nat_lt, option_and_then, option_map, slice_index, if◌then◌else◌}
use Rattle.std.specs.List.{position, slice_get}
use Rattle.std.specs.Result.{result_ok}
use Rattle.std.proofs.lemmas.Bool.{ltb-false}
use Rattle.std.proofs.lemmas.List.{length-take}
use Rattle.std.proofs.lemmas.List.Quantifiers.{position-Some}
use Rattle.std.proofs.lemmas.Option.{slice_get_read}
use Rattle.std.proofs.lemmas.Slice.Eq.{bytes_eq-Decides}
use Rattle.wire_core.specs.Answers.{◌>>=◌}
use Rattle.wire_core.proofs.AnswerLemmas.{bind_ok}
use Rattle.lm_ots.specs.declared.types.OtsType.{OtsType}
use Rattle.lm_ots.specs.OneTime.{type_of_number}
use Rattle.lms_tree.specs.declared.keys.LmsPublic.{LmsPublic}
use Rattle.lms_tree.specs.declared.keys.KeyRefusal.{KeyRefusal}
use Rattle.lms_tree.specs.declared.secrets.MadeHeight.{MadeHeight}
use Rattle.lms_tree.specs.Secret.{own_public}
use Rattle.lms_tree.specs.States.{made_leaves}
use Rattle.lms_tree.specs.Tree.{key_bytes, key_read as public_read}
use Rattle.lms_tree.proofs.KeyBytes.{read_as_written}
use Rattle.bulk_descriptor.specs.declared.making.TheConstants.{MESSAGE_LIMIT}
use Rattle.group_roster.specs.Binary.{roster_read}
use Rattle.group_roster.specs.Roster.{Roster, key_of}
use Rattle.key_store.specs.declared.layout.KeyContent.{KeyContent}
use Rattle.key_store.specs.KeyFiles.{content_of, expected, field, has_valid, head_of, head_read, key_read, made_of_number, magic, part, parts_in, with_slots, word_at}
use Rattle.offline_commands.specs.declared.commands.TheConstants.{ROSTER_LIMIT}
use Rattle.offline_commands.specs.declared.status.Status.{Status}
use Rattle.offline_commands.specs.declared.status.Status.TheVariants.{TooLong}
use Rattle.offline_commands.specs.Outcome.{or_bad_roster, within}
use Rattle.member_core.specs.Promises.{HasRosterKey}
use Rattle.member_entry.specs.Entering.{Entrant, Found, MemberWords, before_key, configuration_by, entrant_by, number_in, or_bad_key_file, or_not_member, or_usage}

-- ---- the number

some-same : {A : Type 0} (a b : A) → (let told : A → Option A = λ x. Some x in told a ≡ told b) → a ≡ b
some-same a b e = cc

number-place : (o : Option ℕ) (number : ℕ) → option_map suc o ≡ Some number → (place : ℕ) × (o ≡ Some place) × (number ≡ suc place)
number-place None number e = absurd cc
number-place (Some place) number e = (place, refl, sym (some-same (suc place) number e))

-- a key stands at the place where it is found
stands-at : (keys : List (List ℕ)) (key : List ℕ) (place : ℕ) → position (bytes_eq key) keys ≡ Some place
    → (place < length keys) × (slice_get keys place ≡ Some key)
stands-at keys key place is =
    let found = position-Some (bytes_eq key) keys place key is in
    (found.0, slice_get_read keys (length keys) place key refl found.0 ((bytes_eq-Decides key (get_or keys place key)).0 found.1))

-- a member's number is one of the group's
pub number-bounds : (roster : Roster) (key : List ℕ) (number : ℕ) → number_in roster key ≡ Some number
    → (1 ≤ number) × (number ≤ length roster.keys)
number-bounds roster key number is =
    let n = number-place (position (bytes_eq key) roster.keys) number is in
    let at = stands-at roster.keys key n.0 n.1 in
    (omega (arith, n.2), omega (arith, n.2, at.0))

-- and the roster has its key under it
listed-key : (roster : Roster) (key : LmsPublic) (number : ℕ) → length key.identifier ≡ 16 → number_in roster (key_bytes key) ≡ Some number
    → key_of roster number ≡ Some key
listed-key roster key number size is =
    let n = number-place (position (bytes_eq (key_bytes key)) roster.keys) number is in
    let at = stands-at roster.keys (key_bytes key) n.0 n.1 in
    ap (key_of roster) n.2 ∙ ap (option_and_then (λ (k : List ℕ). result_ok (public_read k))) at.1
    ∙ ap (λ (r : Result LmsPublic KeyRefusal). result_ok r) (read_as_written key size)

-- ---- the key file

four : {A B C D Y E : Type 0} (a : Result A E) (b : Result B E) (c : Result C E) (d : Result D E) (final : C → D → Result Y E) (y : Y)
    → (a >>= λ _. b >>= λ _. c >>= λ h. d >>= λ w. final h w) ≡ Ok y → (h : C) × (w : D) × (final h w ≡ Ok y)
four (Err e) b c d final y is = absurd cc
four (Ok a) (Err e) c d final y is = absurd cc
four (Ok a) (Ok b) (Err e) d final y is = absurd cc
four (Ok a) (Ok b) (Ok c) (Err e) final y is = absurd cc
four (Ok a) (Ok b) (Ok c) (Ok d) final y is = (c, d, is)

not-refused : {Y E : Type 0} (test : Bool) (fault : E) (x y : Y) → (let refused : Result Y E = Err fault in if test then refused else Ok x) ≡ Ok y
    → test ≡ false
not-refused false fault x y is = refl
not-refused true fault x y is = absurd cc

chosen-one : {Y E : Type 0} (test : Bool) (fault : E) (x y : Y) → (let refused : Result Y E = Err fault in if test then Ok x else refused) ≡ Ok y
    → x ≡ y
chosen-one true fault x y is = cc
chosen-one false fault x y is = absurd cc

-- the head of a file that is read has all its bytes
head-long : (have first version lms ots : ℕ) (x : MadeHeight × OtsType) → head_of have first version lms ots ≡ Ok x → 128 ≤ have
head-long have first version lms ots x is =
    let final : MadeHeight → OtsType → Result (MadeHeight × OtsType) ℕ = λ h w. if nat_lt have 128 then Err have else Ok (h, w) in
    let last = four (field have 0 4 (expected (first == magic))) (field have 4 1 (expected (version == 1)))
    (field have 5 4 (made_of_number lms)) (field have 9 4 (type_of_number ots)) final x is in
    ltb-false have 128 (not-refused (nat_lt have 128) have (last.0, last.1) x last.2)

-- the identifier of a key file has 16 bytes
pub identifier-size : (file : List ℕ) (content : KeyContent) → key_read file ≡ Ok content → length content.identifier ≡ 16
unfolding key_read head_read part
identifier-size file content is =
    let read = bind_ok (head_read file) (with_slots file) content is in
    let long : 128 ≤ length file = head-long (length file) (word_at file 0) (slice_index file 4) (word_at file 5) (word_at file 9) read.0 read.1 in
    let same : content_of read.0 file ≡ content =
    chosen-one (has_valid (made_leaves read.0.0) file) 64 (content_of read.0 file) content read.2 in
    let size : length (take 16 (drop 13 file)) ≡ 16 = omega (arith, length-take 16 (drop 13 file), length-drop 13 file) in
    ap (λ (c : KeyContent). length c.identifier) (sym same) ∙ size

-- ---- the member

-- what a member comes with: the roster has its key under its number, and its message is short enough
pub record IsListed (entrant : Entrant) : Type 0 where
  pub number : number_in entrant.roster (key_bytes (own_public (parts_in entrant.key))) ≡ Some entrant.number
  pub short : length entrant.message ≤ MESSAGE_LIMIT

found-number : (o : Option ℕ) (number : ℕ) → or_not_member o ≡ Ok number → o ≡ Some number
found-number None number is = absurd cc
found-number (Some n) number is = cc

short-message : (file : Option (List ℕ)) (message : List ℕ) → within MESSAGE_LIMIT file ≡ Ok message → length message ≤ MESSAGE_LIMIT
short-message None message is = absurd cc
short-message (Some bytes) message is =
    let small : length bytes ≤ MESSAGE_LIMIT = ltb-false MESSAGE_LIMIT (length bytes)
    (not-refused (nat_lt MESSAGE_LIMIT (length bytes)) (TooLong MESSAGE_LIMIT) bytes message is) in
    let same : message ≡ bytes = (by_test (nat_lt MESSAGE_LIMIT (length bytes)) is) in
    subst (λ (m : List ℕ). length m ≤ MESSAGE_LIMIT) (sym same) small
  where
    by_test : (test : Bool) → (let refused : Result (List ℕ) Status = Err (TooLong MESSAGE_LIMIT) in if test then refused else Ok bytes) ≡ Ok message
        → message ≡ bytes
    by_test true e = absurd cc
    by_test false e = cc

entrant-listed : (roster : Roster) (number : ℕ) (message : List ℕ) (key : KeyContent) (entrant : Entrant)
    → (let told : Entrant → Result Entrant Status = λ x. Ok x in told (record { roster = roster; number = number; message = message; key = key }) ≡ told entrant)
    → number_in roster (key_bytes (own_public (parts_in key))) ≡ Some number → length message ≤ MESSAGE_LIMIT → IsListed entrant
entrant-listed roster number message key entrant is found short =
    let same : record { roster = roster; number = number; message = message; key = key } ≡ entrant = cc in
    subst IsListed same (record { number = found; short = short })

-- the message of the steps before the key file
same-message : (roster : Roster) (message : List ℕ) (first : Roster × List ℕ)
    → (let told : Roster × List ℕ → Result (Roster × List ℕ) Status = λ x. Ok x in told (roster, message) ≡ told first) → message ≡ first.1
same-message roster message first is =
    let same : ◌≡◌ {A = Roster × List ℕ} (roster, message) first = cc in
    ap (λ (x : Roster × List ℕ). x.1) same

first-short : (words : MemberWords) (found : Found) (first : Roster × List ℕ) → before_key words found ≡ Ok first
    → length first.1 ≤ MESSAGE_LIMIT
first-short words found first is =
    let file = bind_ok (within ROSTER_LIMIT found.roster_file) _ first is in
    let roster = bind_ok (or_bad_roster (roster_read file.0)) _ first file.2 in
    let usage = bind_ok (or_usage roster.0 words.addresses) _ first roster.2 in
    let message = bind_ok (within MESSAGE_LIMIT found.message_file) _ first usage.2 in
    subst (λ (m : List ℕ). length m ≤ MESSAGE_LIMIT) (same-message roster.0 message.0 first message.2)
    (short-message found.message_file message.0 message.1)

pub is-listed : (words : MemberWords) (found : Found) (entrant : Entrant) → entrant_by words found ≡ Ok entrant → IsListed entrant
is-listed words found entrant is =
    let first = bind_ok (before_key words found) _ entrant is in
    let key = bind_ok (or_bad_key_file found.key_file) _ entrant first.2 in
    let number = bind_ok (or_not_member (number_in first.0.0 (key_bytes (own_public (parts_in key.0))))) _ entrant key.2 in
    entrant-listed first.0.0 number.0 first.0.1 key.0 entrant number.2
    (found-number (number_in first.0.0 (key_bytes (own_public (parts_in key.0)))) number.0 number.1)
    (first-short words found first.0 first.1)

-- it enters the round with the roster's key
pub has-key : (round : ℕ) (fresh file : List ℕ) (entrant : Entrant) → IsListed entrant → key_read file ≡ Ok entrant.key
    → HasRosterKey (configuration_by round fresh entrant)
has-key round fresh file entrant listed read =
    listed-key entrant.roster (own_public (parts_in entrant.key)) entrant.number (identifier-size file entrant.key read) listed.number
