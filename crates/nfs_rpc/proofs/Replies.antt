-- No head of a reply begins another.
use Rattle.std.proofs.Common.{◌≡◌, ℕ, ◌^◌, ◌<◌, eqb, cond, List, [], ◌∷◌, ◌++◌, refl, sym, ap, ◌∙◌, append_assoc, arith}
use Rattle.std.specs.Int.{w32, to_be_bytes}
use Rattle.std.proofs.lemmas.List.{append_cancel_left}
use Rattle.nfs_xdr.specs.Encoding.{EncodesOnce, numbers_text}
use Rattle.nfs_rpc.specs.declared.reply.Accept.{Accept}
use Rattle.nfs_rpc.specs.declared.reply.Accept.TheVariants.{Success, ProgUnavail, ProgMismatch, ProcUnavail, GarbageArgs, SystemErr}
use Rattle.nfs_rpc.specs.declared.reply.Refused.{Refused}
use Rattle.nfs_rpc.specs.declared.reply.Refused.TheVariants.{RpcMismatch, BadCred, RejectedCred, TooWeak}
use Rattle.nfs_rpc.specs.Replies.{REPLY, accept_words, reject_words, accepted_text, refused_text, Accepted, Denied, IsReply}
use Rattle.nfs_rpc.proofs.Fragments.{number_once}

word_once : (m n : ℕ) (x y : List ℕ) → m < 2 ^ 32 → n < 2 ^ 32 → to_be_bytes w32 m ++ x ≡ to_be_bytes w32 n ++ y → (m ≡ n) × (x ≡ y)
word_once m n x y p q e =
    let same = number_once m n (to_be_bytes w32 m) (to_be_bytes w32 n) x y (record { fits = p; text_is = refl }) (record { fits = q; text_is = refl }) e in
    (same.0, append_cancel_left (to_be_bytes w32 n) x y (ap (λ t. t ++ x) (sym same.1) ∙ e))

next_word : (m n : ℕ) (ms ns u v : List ℕ) → m < 2 ^ 32 → n < 2 ^ 32 → numbers_text (m ∷ ms) ++ u ≡ numbers_text (n ∷ ns) ++ v → (m ≡ n) × (numbers_text ms ++ u ≡ numbers_text ns ++ v)
next_word m n ms ns u v p q e =
    word_once m n (numbers_text ms ++ u) (numbers_text ns ++ v) p q (sym (append_assoc (to_be_bytes w32 m) (numbers_text ms) u) ∙ e ∙ append_assoc (to_be_bytes w32 n) (numbers_text ns) v)

-- ---- how an accepted call went, by one word

abbrev stat : Accept → ℕ
stat Success = 0
stat ProgUnavail = 1
stat ProgMismatch = 2
stat ProcUnavail = 3
stat GarbageArgs = 4
stat SystemErr = 5

abbrev versions : Accept → List ℕ
versions Success = []
versions ProgUnavail = []
versions ProgMismatch = 3 ∷ 3 ∷ []
versions ProcUnavail = []
versions GarbageArgs = []
versions SystemErr = []

abbrev accept_of : ℕ → Accept
accept_of n = cond (eqb n 0) Success (cond (eqb n 1) ProgUnavail (cond (eqb n 2) ProgMismatch (cond (eqb n 3) ProcUnavail (cond (eqb n 4) GarbageArgs SystemErr))))

accept_words_are : (a : Accept) → accept_words a ≡ stat a ∷ versions a
accept_words_are Success = refl
accept_words_are ProgUnavail = refl
accept_words_are ProgMismatch = refl
accept_words_are ProcUnavail = refl
accept_words_are GarbageArgs = refl
accept_words_are SystemErr = refl

accept_back : (a : Accept) → accept_of (stat a) ≡ a
accept_back Success = refl
accept_back ProgUnavail = refl
accept_back ProgMismatch = refl
accept_back ProcUnavail = refl
accept_back GarbageArgs = refl
accept_back SystemErr = refl

stat_fits : (a : Accept) → stat a < 2 ^ 32
stat_fits Success = omega arith
stat_fits ProgUnavail = omega arith
stat_fits ProgMismatch = omega arith
stat_fits ProcUnavail = omega arith
stat_fits GarbageArgs = omega arith
stat_fits SystemErr = omega arith

accept_once : (a b : Accept) (u v : List ℕ) → numbers_text (accept_words a) ++ u ≡ numbers_text (accept_words b) ++ v → a ≡ b
accept_once a b u v e =
    let words : numbers_text (stat a ∷ versions a) ++ u ≡ numbers_text (stat b ∷ versions b) ++ v =
    ap (λ t. numbers_text t ++ u) (sym (accept_words_are a)) ∙ e ∙ ap (λ t. numbers_text t ++ v) (accept_words_are b) in
    sym (accept_back a) ∙ ap accept_of (next_word (stat a) (stat b) (versions a) (versions b) u v (stat_fits a) (stat_fits b) words).0 ∙ accept_back b

-- ---- why a call was denied, by two words

abbrev why : Refused → ℕ
why RpcMismatch = 0
why BadCred = 1
why RejectedCred = 1
why TooWeak = 1

abbrev detail : Refused → ℕ
detail RpcMismatch = 2
detail BadCred = 1
detail RejectedCred = 2
detail TooWeak = 5

abbrev highest : Refused → List ℕ
highest RpcMismatch = 2 ∷ []
highest BadCred = []
highest RejectedCred = []
highest TooWeak = []

abbrev refused_of : ℕ → ℕ → Refused
refused_of k n = cond (eqb k 0) RpcMismatch (cond (eqb n 1) BadCred (cond (eqb n 2) RejectedCred TooWeak))

reject_words_are : (r : Refused) → reject_words r ≡ why r ∷ detail r ∷ highest r
reject_words_are RpcMismatch = refl
reject_words_are BadCred = refl
reject_words_are RejectedCred = refl
reject_words_are TooWeak = refl

refused_back : (r : Refused) → refused_of (why r) (detail r) ≡ r
refused_back RpcMismatch = refl
refused_back BadCred = refl
refused_back RejectedCred = refl
refused_back TooWeak = refl

reject_fits : (r : Refused) → (why r < 2 ^ 32) × (detail r < 2 ^ 32)
reject_fits RpcMismatch = (omega arith, omega arith)
reject_fits BadCred = (omega arith, omega arith)
reject_fits RejectedCred = (omega arith, omega arith)
reject_fits TooWeak = (omega arith, omega arith)

reject_once : (r s : Refused) (u v : List ℕ) → numbers_text (reject_words r) ++ u ≡ numbers_text (reject_words s) ++ v → r ≡ s
reject_once r s u v e =
    let words : numbers_text (why r ∷ detail r ∷ highest r) ++ u ≡ numbers_text (why s ∷ detail s ∷ highest s) ++ v =
    ap (λ t. numbers_text t ++ u) (sym (reject_words_are r)) ∙ e ∙ ap (λ t. numbers_text t ++ v) (reject_words_are s) in
    let first = next_word (why r) (why s) (detail r ∷ highest r) (detail s ∷ highest s) u v (reject_fits r).0 (reject_fits s).0 words in
    let second = next_word (detail r) (detail s) (highest r) (highest s) u v (reject_fits r).1 (reject_fits s).1 first.1 in
    sym (refused_back r) ∙ ap (λ k. refused_of k (detail r)) first.0 ∙ ap (refused_of (why s)) second.0 ∙ refused_back s

-- ---- whole heads

-- the number and the message type, and what follows them
after_type : (m n : ℕ) (ms ns u v : List ℕ) → m < 2 ^ 32 → n < 2 ^ 32 → numbers_text (m ∷ REPLY ∷ ms) ++ u ≡ numbers_text (n ∷ REPLY ∷ ns) ++ v → (m ≡ n) × (numbers_text ms ++ u ≡ numbers_text ns ++ v)
after_type m n ms ns u v p q e =
    let first = next_word m n (REPLY ∷ ms) (REPLY ∷ ns) u v p q e in
    (first.0, (next_word REPLY REPLY ms ns u v (omega arith) (omega arith) first.1).1)

-- an accepted call is not denied
accepted_or_denied : (m n : ℕ) (ms ns u v : List ℕ) → m < 2 ^ 32 → n < 2 ^ 32 → numbers_text (m ∷ REPLY ∷ 0 ∷ ms) ++ u ≡ numbers_text (n ∷ REPLY ∷ 1 ∷ ns) ++ v → ⊥
accepted_or_denied m n ms ns u v p q e =
    let third = next_word 0 1 ms ns u v (omega arith) (omega arith) (after_type m n (0 ∷ ms) (1 ∷ ns) u v p q e).1 in
    omega (arith, third.0)

pub reply_once : EncodesOnce IsReply
reply_once (Accepted xid a) (Accepted other b) x y u v p q e =
    let words : accepted_text xid a ++ u ≡ accepted_text other b ++ v = ap (λ t. t ++ u) (sym p.1) ∙ e ∙ ap (λ t. t ++ v) q.1 in
    let first = after_type xid other (0 ∷ 0 ∷ 0 ∷ accept_words a) (0 ∷ 0 ∷ 0 ∷ accept_words b) u v p.0 q.0 words in
    let second = next_word 0 0 (0 ∷ 0 ∷ accept_words a) (0 ∷ 0 ∷ accept_words b) u v (omega arith) (omega arith) first.1 in
    let third = next_word 0 0 (0 ∷ accept_words a) (0 ∷ accept_words b) u v (omega arith) (omega arith) second.1 in
    let fourth = next_word 0 0 (accept_words a) (accept_words b) u v (omega arith) (omega arith) third.1 in
    let same = accept_once a b u v fourth.1 in
    (ap (λ k. Accepted k a) first.0 ∙ ap (Accepted other) same, p.1 ∙ ap (λ k. accepted_text k a) first.0 ∙ ap (accepted_text other) same ∙ sym q.1)
reply_once (Accepted xid a) (Denied other b) x y u v p q e =
    absurd (accepted_or_denied xid other (0 ∷ 0 ∷ accept_words a) (reject_words b) u v p.0 q.0 (ap (λ t. t ++ u) (sym p.1) ∙ e ∙ ap (λ t. t ++ v) q.1))
reply_once (Denied xid a) (Accepted other b) x y u v p q e =
    absurd (accepted_or_denied other xid (0 ∷ 0 ∷ accept_words b) (reject_words a) v u q.0 p.0 (ap (λ t. t ++ v) (sym q.1) ∙ sym e ∙ ap (λ t. t ++ u) p.1))
reply_once (Denied xid a) (Denied other b) x y u v p q e =
    let words : refused_text xid a ++ u ≡ refused_text other b ++ v = ap (λ t. t ++ u) (sym p.1) ∙ e ∙ ap (λ t. t ++ v) q.1 in
    let first = after_type xid other (1 ∷ reject_words a) (1 ∷ reject_words b) u v p.0 q.0 words in
    let same = reject_once a b u v (next_word 1 1 (reject_words a) (reject_words b) u v (omega arith) (omega arith) first.1).1 in
    (ap (λ k. Denied k a) first.0 ∙ ap (Denied other) same, p.1 ∙ ap (λ k. refused_text k a) first.0 ∙ ap (refused_text other) same ∙ sym q.1)
