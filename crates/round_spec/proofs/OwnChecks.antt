-- What a member says reads in its slot, and checks where its key is the roster's.
use Rattle.std.proofs.Common.{◌≡◌, ℕ, zero, suc, ◌+◌, ◌-◌, ◌*◌, ◌<◌, ◌≤◌, Bool, true, List, ◌∷◌, ◌++◌, cond, length, Ok, ap, sym, ◌∙◌, refl, subst, arith, rules}
use Rattle.std.specs.Prelude.{◌==◌, count_by}
use Rattle.std.specs.List.{list_all, range_with_len, sum_by}
use Rattle.std.proofs.lemmas.Bool.{eqb-true}
use Rattle.std.proofs.lemmas.List.FromFn.{get_or-range_with_len}
use Rattle.std.proofs.lemmas.List.Sums.{AllPass-from_list_all, sum_by-append, sum_by-cons}
use Rattle.wire_core.specs.Bytes.{IsBytes}
use Rattle.phase_message.specs.declared.post.Post.{Post}
use Rattle.phase_message.specs.Offence.{content_read}
use Rattle.phase_message.specs.Shape.{Shape}
use Rattle.phase_message.specs.Grammar.{content_text}
use Rattle.phase_message.specs.Stages.{is_member, is_slot}
use Rattle.phase_message.proofs.SlotBounds.{slot-bounds}
use Rattle.phase_message.proofs.Whole.{content-is_read}
use Rattle.lms_tree.specs.Secret.{leaves, lms_signature, own_public}
use Rattle.lms_tree.proofs.OwnPaths.{own_signatures_are_valid}
use Rattle.signed_post.specs.declared.post.TheConstants.{LONGEST_SIGNATURE}
use Rattle.signed_post.specs.Own.{IsSendable}
use Rattle.signed_post.proofs.Admits.{admits_exactly}
use Rattle.signed_post.proofs.Lengths.{own_posts_are_admitted, valid-short}
use Rattle.round_spec.specs.Embedded.{slot_named}
use Rattle.round_spec.specs.OwnRows.{CanSay, OwnPostChecks, OwnPostReads, content_due}
use Rattle.round_spec.specs.Runs.{AllGo, ChecksIn, ReadsIn}
use Rattle.round_spec.specs.Say.{Configuration, content_with, number_said_before, own_content, own_header, own_post, shape_in}
use Rattle.round_spec.proofs.Beginnings.{checks-from}
use Rattle.round_spec.proofs.OwnBytes.{signature-bytes}
use Rattle.round_spec.proofs.OwnGrammar.{own-content-bytes, own_row_of_grammar}
use Rattle.round_spec.proofs.OwnItems.{is-member}
use Rattle.round_spec.proofs.OwnLengths.{content-long, own_content_is_short}
use Rattle.round_spec.proofs.Stopping.{own-header}

-- ---- twelve leaves are enough

-- how many of the stages of a round of n a member speaks at
abbrev pub spoken_of : ℕ → ℕ → ℕ
spoken_of n member = count_by (λ stage. is_slot (record { version = 1; members = n }) stage member) (range_with_len 0 (2 * n + 10))

-- of every member of every group it is twelve
all-twelve : list_all (λ n. list_all (λ member. spoken_of n member == 12) (range_with_len 1 n)) (range_with_len 2 7) ≡ true
all-twelve = refl

pub twelve : (n member : ℕ) → 2 ≤ n → n ≤ 8 → 1 ≤ member → member ≤ n → spoken_of n member ≡ 12
twelve n member least most first last =
    let n_place : 2 + (n - 2) ≡ n = omega (arith, least) in
    let member_place : 1 + (member - 1) ≡ member = omega (arith, first) in
    let group = AllPass-from_list_all (λ (n : ℕ). list_all (λ (member : ℕ). spoken_of n member == 12) (range_with_len 1 n))
    (range_with_len 2 7) all-twelve (n - 2) 0 (omega (arith, most, length-of 2 7)) in
    let group_is : list_all (λ (member : ℕ). spoken_of n member == 12) (range_with_len 1 n) ≡ true =
    subst (λ (k : ℕ). list_all (λ (member : ℕ). spoken_of k member == 12) (range_with_len 1 k) ≡ true)
    (get_or-range_with_len 2 7 (n - 2) 0 (omega (arith, most)) ∙ n_place) group in
    let one = AllPass-from_list_all (λ (member : ℕ). spoken_of n member == 12) (range_with_len 1 n) group_is (member - 1) 0
    (omega (arith, first, last, length-of 1 n)) in
    eqb-true (spoken_of n member) 12 (subst (λ (k : ℕ). (spoken_of n k == 12) ≡ true)
    (get_or-range_with_len 1 n (member - 1) 0 (omega (arith, first, last)) ∙ member_place) one)
  where
    length-of : (a n : ℕ) → length (range_with_len a n) ≡ n
    length-of a zero = refl
    length-of a (suc n) = omega (arith, length-of (a + 1) n)

range-split : (a x y : ℕ) → range_with_len a (x + y) ≡ range_with_len a x ++ range_with_len (a + x) y
range-split a zero y =
    let none : 0 + y ≡ y = omega arith in
    let same : a ≡ a + 0 = omega arith in
    ap (range_with_len a) none ∙ ap (λ (b : ℕ). range_with_len b y) same
range-split a (suc x) y =
    let more : suc x + y ≡ suc (x + y) = omega arith in
    let next : a + 1 + x ≡ a + suc x = omega arith in
    ap (range_with_len a) more
    ∙ ap (λ (ns : List ℕ). a ∷ ns) (range-split (a + 1) x y)
    ∙ ap (λ (b : ℕ). a ∷ (range_with_len (a + 1) x ++ range_with_len b y)) next

-- one that speaks at a stage has spoken at fewer before it than in the whole round
pub spoken-before : (p : ℕ → Bool) (stage rest : ℕ) → p stage ≡ true
    → count_by p (range_with_len 0 stage) < count_by p (range_with_len 0 (stage + suc rest))
spoken-before p stage rest speaks =
    let f : ℕ → ℕ = λ x. cond (p x) 1 0 in
    let here : f stage ≡ 1 = ap (λ (b : Bool). cond b 1 0) speaks in
    let at : 0 + stage ≡ stage = omega arith in
    let split : sum_by f (range_with_len 0 (stage + suc rest)) ≡ sum_by f (range_with_len 0 stage) + sum_by f
    (stage ∷ range_with_len (stage + 1) rest) =
    ap (sum_by f) (range-split 0 stage (suc rest)) ∙ sum_by-append f (range_with_len 0 stage) (range_with_len (0 + stage) (suc rest))
    ∙ ap (λ (b : ℕ). sum_by f (range_with_len 0 stage) + sum_by f (range_with_len b (suc rest))) at in
    omega (arith, split, sum_by-cons f stage (range_with_len (stage + 1) rest), here)

pub leaf-left : (c : Configuration) (stage : ℕ) (past : List Post) → CanSay c stage past
    → c.first + number_said_before c stage < leaves c.key
unfolding number_said_before
leaf-left c stage past can =
    let n : ℕ = (shape_in c).members in
    let member = is-member c stage past can in
    let rest : ℕ = 2 * n + 9 - stage in
    let lt = (slot-bounds (shape_in c) stage c.number can.speaks).0 in
    let whole : stage + suc rest ≡ 2 * n + 10 = omega (arith, lt) in
    let shape_is : shape_in c ≡ record { version = 1; members = n } = ap (λ (v : ℕ). record { version = v; members = n })
    can.enter.roster.version in
    let fewer = spoken-before (λ (earlier : ℕ). is_slot (shape_in c) earlier c.number) stage rest can.speaks in
    let all : count_by (λ (earlier : ℕ). is_slot (shape_in c) earlier c.number) (range_with_len 0 (stage + suc rest)) ≡ spoken_of n c.number
    =
    ap (λ (k : ℕ). count_by (λ (earlier : ℕ). is_slot (shape_in c) earlier c.number) (range_with_len 0 k)) whole
    ∙ ap (λ (s : Shape). count_by (λ (earlier : ℕ). is_slot s earlier c.number) (range_with_len 0 (2 * n + 10))) shape_is in
    let left = can.enter.leaves in
    omega (arith, fewer, all, twelve n c.number member.least member.most member.first member.last, left)

-- ---- an own post

is-there : (n member : ℕ) → 1 ≤ member → member ≤ n → is_member n member ≡ true
is-there n member first last = search rules

own-text : (c : Configuration) (past : List Post) (stage : ℕ) → own_content c past stage ≡ content_text (content_due c past stage)
unfolding own_content
own-text c past stage = refl

due-slot : (c : Configuration) (past : List Post) (stage : ℕ) → slot_named (content_due c past stage).header ≡ record
    { stage = stage; sender = c.number }
unfolding content_with
due-slot c past stage = refl

sendable : (c : Configuration) (stage : ℕ) (past : List Post) → CanSay c stage past → AllGo c past stage
    → IsSendable c.roster c.round (own_content c past stage) (own_header c past stage)
sendable c stage past can goes =
    let member = is-member c stage past can in
    let short = own_content_is_short c stage past can goes in
    record {
      reads = own-header c past stage can.enter.round;
      version = can.enter.roster.version;
      group = refl;
      this_round = refl;
      member = is-there (length c.roster.keys) c.number member.first member.last;
      slot = can.speaks;
      least = long-enough;
      most = omega (arith, short);
    }
  where
    long-enough : 76 ≤ length (own_content c past stage)
    long-enough = omega (
      arith,
      ap length (own-text c past stage),
      content-long (shape_in c) (content_due c past stage)
          (own_row_of_grammar c stage past can),
    )

own-signature : Configuration → List Post → ℕ → List ℕ
own-signature c past stage = lms_signature c.key (c.first + number_said_before c stage) (own_content c past stage)

own-post-is : (c : Configuration) (past : List Post) (stage : ℕ)
    → own_post c past stage ≡ record { content = own_content c past stage; signature = own-signature c past stage }
unfolding own_post own-signature
own-post-is c past stage = refl

-- a signature by any key is short enough
signature-short : (c : Configuration) (stage : ℕ) (past : List Post) → CanSay c stage past
    → length (own-signature c past stage) ≤ LONGEST_SIGNATURE
unfolding own-signature
signature-short c stage past can =
    let q : ℕ = c.first + number_said_before c stage in
    valid-short (own_public c.key) (own_content c past stage) (lms_signature c.key q (own_content c past stage))
    (own_signatures_are_valid c.key q (own_content c past stage) (leaf-left c stage past can))

due-read : (c : Configuration) (stage : ℕ) (past : List Post) → CanSay c stage past
    → content_read (shape_in c) (own_content c past stage) ≡ Ok (content_due c past stage)
due-read c stage past can =
    ap (content_read (shape_in c)) (own-text c past stage) ∙ content-is_read (shape_in c) (content_due c past stage)
    (own_row_of_grammar c stage past can)

signed-bytes : (c : Configuration) (stage : ℕ) (past : List Post) → IsBytes (own-signature c past stage)
unfolding own-signature
signed-bytes c stage past = signature-bytes c.key (c.first + number_said_before c stage) (own_content c past stage)

pub own_post_reads : OwnPostReads
own_post_reads c stage past can goes =
    let its = sendable c stage past can goes in
    let least = its.least in
    let most = its.most in
    let short = signature-short c stage past can in
    subst (ReadsIn c (record { stage = stage; sender = c.number })) (sym (own-post-is c past stage)) (record {
      content = content_due c past stage;
      reads = due-read c stage past can;
      content_bytes = own-content-bytes c stage past can;
      signature_bytes = signed-bytes c stage past;
      named = due-slot c past stage;
      frame = record { least = least; most = omega (arith, most, short) };
      short = short;
    })

pub own_post_checks : OwnPostChecks
unfolding own-signature
own_post_checks c stage past is can goes =
    let q : ℕ = c.first + number_said_before c stage in
    let post : Post = record { content = own_content c past stage; signature = own-signature c past stage } in
    let signature : IsBytes (own-signature c past stage) = signature-bytes c.key q (own_content c past stage) in
    let admitted = own_posts_are_admitted c.roster c.round (own_content c past stage) (own_header c past stage) c.key q
    (sendable c stage past can goes) is.key (leaf-left c stage past can) in
    subst (ChecksIn c (record { stage = stage; sender = c.number })) (sym (own-post-is c past stage)) (record {
      content = content_due c past stage;
      checks = checks-from c.roster c.round post (own_header c past stage) (content_due c past stage)
          ((admits_exactly c.roster c.round post (own_header c past stage) signature).1 admitted) (due-read c stage past can);
      content_bytes = own-content-bytes c stage past can;
      signature_bytes = signature;
      named = due-slot c past stage;
    })
