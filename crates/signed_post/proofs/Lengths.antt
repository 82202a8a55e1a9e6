-- How long an admitted post is, and that own posts are admitted.
use Rattle.std.proofs.Common.{◌≡◌, ℕ, ◌+◌, ◌*◌, ◌≤◌, ◌<◌, List, ◌++◌, length, Some, Result, Ok, refl, sym, ap, subst, ◌∙◌, arith, length-append}
use Rattle.std.specs.Int.{w32, to_be_bytes}
use Rattle.wire_core.specs.declared.cursor.Short.{Short}
use Rattle.wire_core.specs.Bytes.{IsBytes}
use Rattle.lm_ots.specs.declared.types.OtsType.{OtsType}
use Rattle.lm_ots.specs.declared.types.OtsType.TheVariants.{W1, W2, W4, W8}
use Rattle.lm_ots.specs.OneTime.{signature_bytes, u32str}
use Rattle.lm_ots.proofs.Words.{length-u32str}
use Rattle.lms_tree.specs.declared.keys.LmsType.{LmsType}
use Rattle.lms_tree.specs.declared.keys.LmsType.TheVariants.{H5, H10, H15, H20, H25}
use Rattle.lms_tree.specs.declared.keys.LmsPublic.{LmsPublic}
use Rattle.lms_tree.specs.Tree.{LmsValid, height, tree_number}
use Rattle.lms_tree.specs.Secret.{own_public, lms_signature}
use Rattle.lms_tree.proofs.OwnPaths.{own_signatures_are_valid}
use Rattle.phase_message.specs.declared.content.Content.{Content}
use Rattle.phase_message.specs.declared.header.Header.{Header}
use Rattle.phase_message.specs.declared.post.Post.{Post}
use Rattle.phase_message.specs.declared.stage.StageKind.{StageKind}
use Rattle.phase_message.specs.declared.stage.StageKind.TheVariants.{Go, Check}
use Rattle.phase_message.specs.Body.{length_rule}
use Rattle.phase_message.specs.Shape.{Shape}
use Rattle.phase_message.specs.Grammar.{OfGrammar, content_text}
use Rattle.phase_message.specs.Header.{header_of}
use Rattle.phase_message.specs.Stages.{kind_of_stage}
use Rattle.phase_message.specs.Offence.{content_read}
use Rattle.phase_message.specs.Post.{post_spelling}
use Rattle.phase_message.proofs.Lengths.{fixed-length}
use Rattle.phase_message.proofs.Whole.{content-is_spelled, content-header}
use Rattle.group_roster.specs.Roster.{Roster, shape_of_roster}
use Rattle.signed_post.specs.Admission.{Admitted}
use Rattle.signed_post.specs.Lengths.{IsVoteStage, PostsAreShort, VotesAreShort}
use Rattle.signed_post.specs.Own.{IsSendable, OwnPostsAreAdmitted}

one_time_short : (width : OtsType) → signature_bytes width ≤ 8516
one_time_short W1 = omega arith
one_time_short W2 = omega arith
one_time_short W4 = omega arith
one_time_short W8 = omega arith

low : (type : LmsType) → height type ≤ 25
low H5 = omega arith
low H10 = omega arith
low H15 = omega arith
low H20 = omega arith
low H25 = omega arith

four_parts : (a b c d : List ℕ) → length (a ++ b ++ c ++ d) ≡ length a + length b + length c + length d
four_parts a b c d = omega (arith, length-append (a ++ b ++ c) d, length-append (a ++ b) c, length-append a b)

-- a valid signature has at most 9,324 bytes
pub valid-short : (key : LmsPublic) (message sig : List ℕ) → LmsValid key message sig → length sig ≤ 9324
valid-short key message sig v =
    let whole : length sig ≡ length (u32str v.q) + length v.ots + length (u32str (tree_number key.lms_type)) + length v.path =
    ap length v.parts ∙ four_parts (u32str v.q) v.ots (u32str (tree_number key.lms_type)) v.path in
    omega (
      arith,
      whole,
      length-u32str v.q,
      length-u32str (tree_number key.lms_type),
      v.ots_length,
      v.path_length,
      one_time_short
          key.ots_type,
      low key.lms_type,
    )

spelled-long : (post : Post) → length (post_spelling post) ≡ 4 + length post.content + length post.signature
spelled-long post =
    let head = to_be_bytes w32 (length post.content) in
    omega (arith, length-append (head ++ post.content) post.signature, length-append head post.content)

pub posts_are_short : PostsAreShort
posts_are_short roster round post header a =
    omega (arith, spelled-long post, valid-short a.signed.0 post.content post.signature a.signed.2)

one_byte : (shape : Shape) (kind : StageKind) → IsVoteStage kind → length_rule shape kind ≡ 1
one_byte shape (Go shuffle) vote = refl
one_byte shape Check vote = refl
one_byte shape kind vote = absurd vote

-- the content of a vote has 77 bytes
vote-long : (shape : Shape) (kind : StageKind) (bytes : List ℕ) (c : Content) (stage : ℕ) → IsBytes bytes → content_read shape bytes ≡ Ok c
    → c.header.stage ≡ stage → kind_of_stage shape stage ≡ Some kind → IsVoteStage kind → length bytes ≡ 77
vote-long shape kind bytes c stage fits reads is at vote =
    let spelled = content-is_spelled shape bytes c fits reads in
    let here : kind_of_stage shape c.header.stage ≡ Some kind = ap (kind_of_stage shape) is ∙ at in
    let one = one_byte shape kind vote in
    omega (arith, ap length spelled.0, fixed-length shape c kind spelled.1 here (omega (arith, one)), one)

abbrev ok : Header → Result Header Short
ok h = Ok h

same_stage : (r : Result Header Short) (a b : Header) → r ≡ ok a → r ≡ ok b → a.stage ≡ b.stage
same_stage r a b left right = let same : ok a ≡ ok b = sym left ∙ right in let one : a ≡ b = cc in ap (λ (h : Header). h.stage) one

pub votes_are_short : VotesAreShort
votes_are_short roster round post header kind c a fits at vote reads =
    let shape = shape_of_roster roster in
    let is = same_stage (header_of post.content) c.header header (content-header shape post.content c reads) a.reads in
    omega (arith, posts_are_short roster round post header a, vote-long shape kind post.content c header.stage fits reads is at vote)

pub own_posts_are_admitted : OwnPostsAreAdmitted
own_posts_are_admitted roster round content header secret q own key leaf =
    let valid = own_signatures_are_valid secret q content leaf in
    let short = valid-short (own_public secret) content (lms_signature secret q content) valid in
    record {
      frame = record { least = own.least; most = omega (arith, own.most, short) };
      reads = own.reads;
      version = own.version;
      group = own.group;
      this_round = own.this_round;
      member = own.member;
      slot = own.slot;
      signed = (own_public secret, key, valid);
    }
