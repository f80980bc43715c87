-- What the bytes since the last whole record are, and that a stream is read in one way.
use Rattle.std.proofs.Common.{◌≡◌, ℕ, ◌+◌, ◌^◌, ◌<◌, ◌≤◌, Bool, true, false, List, [], ◌∷◌, ◌++◌, length, take, refl, sym, ap, subst, ◌∙◌, append_assoc, append-nil, arith}
use Rattle.std.proofs.lemmas.List.{length-append, length-take, append_cancel_left}
use Rattle.std.proofs.lemmas.Bool.{false≢true}
use Rattle.nfs_xdr.specs.Encoding.{Begins, BeginsNone, EncodesOnce}
use Rattle.nfs_rpc.specs.declared.framer.Stage.{Stage}
use Rattle.nfs_rpc.specs.declared.framer.Stage.TheVariants.{Header, Body, Ready, Failed}
use Rattle.nfs_rpc.specs.Records.{header, fragment, IsPart, unended, joined, IsRecord, AreRecords, Follows, StreamsAreReadOnce, RecordsGrow, RecordsClose}
use Rattle.nfs_rpc.specs.Progress.{Progress, Leads, Unfinished, Moves, HasRead, ReadersKeep, IsWithin, StageReports, UnfinishedReports}
use Rattle.nfs_rpc.proofs.Fragments.{header_once, fragment_once, GoesOn, LeftFirst, RightFirst, go_on, joined-append}

-- a fragment that is the last of its record, and one that isn't, don't stand at one place
last_or_not : (f g x y : List ℕ) → IsPart f → IsPart g → fragment true f ++ x ≡ fragment false g ++ y → ⊥
last_or_not f g x y p q e = false≢true (sym (fragment_once true false f g x y p q e).0)

at_final : (ps qs : List (List ℕ)) (f g x y : List ℕ) → IsPart f → IsPart g → GoesOn ps qs (fragment true f ++ x) (fragment true g ++ y) → (ps ≡ qs) × (f ≡ g) × (x ≡ y)
at_final ps qs f g x y p q (LeftFirst [] are e h) = (sym (e ∙ append-nil ps), (fragment_once true true f g x y p q h).1, (fragment_once true true f g x y p q h).2)
at_final ps qs f g x y p q (LeftFirst (m ∷ more) are e h) = absurd (last_or_not f m x (unended more ++ (fragment true g ++ y)) p are.0 (h ∙ append_assoc (fragment false m) (unended more) (fragment true g ++ y)))
at_final ps qs f g x y p q (RightFirst m more are e h) = absurd (last_or_not g m y (unended more ++ (fragment true f ++ x)) q are.0 (h ∙ append_assoc (fragment false m) (unended more) (fragment true f ++ x)))

pub record_once : EncodesOnce IsRecord
record_once v w a b x y p q e =
    let regrouped : unended p.parts ++ (fragment true p.final ++ x) ≡ unended q.parts ++ (fragment true q.final ++ y) =
    sym (append_assoc (unended p.parts) (fragment true p.final) x) ∙ ap (λ t. t ++ x) (sym p.text_is) ∙ e ∙ ap (λ t. t ++ y) q.text_is ∙ append_assoc (unended q.parts) (fragment true q.final) y in
    let same = at_final p.parts q.parts p.final q.final x y p.final_is q.final_is (go_on p.parts q.parts (fragment true p.final ++ x) (fragment true q.final ++ y) p.are_parts q.are_parts regrouped) in (
      p.content_is ∙ ap (λ ps. joined ps ++ p.final) same.0 ∙ ap (λ f. joined q.parts ++ f) same.1 ∙ sym q.content_is,
      p.text_is ∙ ap (λ ps. unended ps ++ fragment true p.final) same.0 ∙ ap (λ f. unended q.parts ++ fragment true f) same.1 ∙ sym q.text_is,
    )

begins_once : (v w : List ℕ) (bytes x y : List ℕ) → Begins IsRecord v bytes x → Begins IsRecord w bytes y → (v ≡ w) × (x ≡ y)
begins_once v w bytes x y p q =
    let both : p.text ++ x ≡ q.text ++ y = sym p.bytes_are ∙ q.bytes_are in
    let same = record_once v w p.text q.text x y p.encoded q.encoded both in
    (same.0, append_cancel_left q.text x y (ap (λ t. t ++ x) (sym same.1) ∙ both))

pub streams_once : StreamsAreReadOnce
streams_once bytes [] [] rest left p q = (refl, p.whole ∙ sym q.whole)
streams_once bytes [] (o ∷ others) rest left p q = absurd (p.unfinished o q.whole.0 (subst (λ t. Begins IsRecord o t q.whole.0) (sym p.whole) q.whole.1))
streams_once bytes (r ∷ records) [] rest left p q = absurd (q.unfinished r p.whole.0 (subst (λ t. Begins IsRecord r t p.whole.0) (sym q.whole) p.whole.1))
streams_once bytes (r ∷ records) (o ∷ others) rest left p q =
    let same = begins_once r o bytes p.whole.0 q.whole.0 p.whole.1 q.whole.1 in
    let more = streams_once q.whole.0 records others rest left (record { whole = subst (λ t. AreRecords t records rest) same.1 p.whole.2; unfinished = p.unfinished }) (record { whole = q.whole.2; unfinished = q.unfinished }) in
    (ap (λ h. h ∷ records) same.0 ∙ ap (λ t. o ∷ t) more.0, more.1)

-- ---- the bytes since the last whole record

-- A tail that is less than a fragment: some bytes of a header, or a header and fewer bytes than it says.
pub data IsShort (limit : ℕ) (len : ℕ) (tail : List ℕ) : Type 0 where
  InHeader : length tail < 4 → IsShort limit len tail
  InBody : (last : Bool) (n : ℕ) (got : List ℕ) → n < 2 ^ 31 → length got < n → len + n ≤ limit → tail ≡ header last n ++ got → IsShort limit len tail

-- no whole fragment stands at its front
no_fragment : (limit len : ℕ) (tail : List ℕ) (b : Bool) (f x : List ℕ) → IsPart f → IsShort limit len tail → tail ≡ fragment b f ++ x → ⊥
no_fragment limit len tail b f x p (InHeader short) e =
    let len : length tail ≡ length (fragment b f) + length x = ap length e ∙ length-append (fragment b f) x in
    let head : length (fragment b f) ≡ 4 + length f = length-append (header b (length f)) f in
    omega arith
no_fragment limit len tail b f x p (InBody last n got below short within is) e =
    let heads = header_once last b n (length f) got (f ++ x) below p (sym is ∙ e ∙ append_assoc (header b (length f)) f x) in
    let len : length got ≡ length f + length x = ap length heads.2 ∙ length-append f x in
    omega (arith, heads.1)

-- no header above the limit stands there
no_header : (limit len : ℕ) (tail : List ℕ) (b : Bool) (n : ℕ) (x : List ℕ) → n < 2 ^ 31 → limit < len + n → IsShort limit len tail → tail ≡ header b n ++ x → ⊥
no_header limit len tail b n x below over (InHeader short) e =
    let len : length tail ≡ 4 + length x = ap length e ∙ length-append (header b n) x in
    omega arith
no_header limit len tail b n x below over (InBody last m got fits short within is) e =
    let heads = header_once last b m n got x fits below (sym is ∙ e) in
    omega (arith, heads.1)

none_whole : (limit len : ℕ) (ps qs : List (List ℕ)) (tail f x : List ℕ) → IsPart f → IsShort limit len tail → GoesOn ps qs tail (fragment true f ++ x) → ⊥
none_whole limit len ps qs tail f x p short (LeftFirst [] are e h) = no_fragment limit len tail true f x p short h
none_whole limit len ps qs tail f x p short (LeftFirst (m ∷ more) are e h) = no_fragment limit len tail false m (unended more ++ (fragment true f ++ x)) are.0 short (h ∙ append_assoc (fragment false m) (unended more) (fragment true f ++ x))
none_whole limit len ps qs tail f x p short (RightFirst m more are e h) = last_or_not f m x (unended more ++ tail) p are.0 (h ∙ append_assoc (fragment false m) (unended more) tail)

begins_none : (limit : ℕ) (text content tail : List ℕ) (got : List ℕ) → Follows text content tail got → (len : ℕ) → IsShort limit len tail → BeginsNone IsRecord text
begins_none limit text content tail got f len short value rest b =
    let s = b.encoded in
    let regrouped : unended f.parts ++ tail ≡ unended s.parts ++ (fragment true s.final ++ rest) =
    sym f.text_is ∙ b.bytes_are ∙ ap (λ t. t ++ rest) s.text_is ∙ append_assoc (unended s.parts) (fragment true s.final) rest in
    none_whole limit len f.parts s.parts tail s.final rest s.final_is short (go_on f.parts s.parts tail (fragment true s.final ++ rest) f.are_parts s.are_parts regrouped)

-- a header of a fragment that lies before is within the limit
before_within : (limit n : ℕ) (b : Bool) (qs : List (List ℕ)) (m : List ℕ) (more : List (List ℕ)) (x y : List ℕ) → n < 2 ^ 31 → IsPart m → limit < length (joined qs) + n → length (joined (qs ++ m ∷ more)) ≤ limit → header b n ++ x ≡ fragment false m ++ y → ⊥
before_within limit n b qs m more x y below part over within e =
    let heads = header_once b false n (length m) x (m ++ y) below part (e ∙ append_assoc (header false (length m)) m y) in
    let len : length (joined (qs ++ m ∷ more)) ≡ length (joined qs) + (length m + length (joined more)) = ap length (joined-append qs (m ∷ more)) ∙ length-append (joined qs) (joined (m ∷ more)) ∙ ap (λ k. length (joined qs) + k) (length-append m (joined more)) in
    omega (arith, heads.1)

none_above : (limit n : ℕ) (b : Bool) (ps qs : List (List ℕ)) (tail x : List ℕ) → n < 2 ^ 31 → limit < length (joined qs) + n → length (joined ps) ≤ limit → IsShort limit (length (joined ps)) tail → GoesOn ps qs tail (header b n ++ x) → ⊥
none_above limit n b ps qs tail x below over within short (LeftFirst [] are e h) =
    no_header limit (length (joined ps)) tail b n x below (subst (λ k. limit < length (joined k) + n) (e ∙ append-nil ps) over) short h
none_above limit n b ps qs tail x below over within short (LeftFirst (m ∷ more) are e h) = no_fragment limit (length (joined ps)) tail false m (unended more ++ (header b n ++ x)) are.0 short (h ∙ append_assoc (fragment false m) (unended more) (header b n ++ x))
none_above limit n b ps qs tail x below over within short (RightFirst m more are e h) =
    before_within limit n b qs m more x (unended more ++ tail) below are.0 over (subst (λ k. length (joined k) ≤ limit) e within) (h ∙ append_assoc (fragment false m) (unended more) tail)

follows_within : (limit : ℕ) (text content tail got : List ℕ) (f : Follows text content tail got) → length (joined f.parts) ≤ limit → IsShort limit (length (joined f.parts)) tail → IsWithin limit text
follows_within limit text content tail got f within short r =
    none_above limit r.n r.last f.parts r.parts tail r.after r.below r.too_long within short
    (go_on f.parts r.parts tail (header r.last r.n ++ r.after) f.are_parts r.are_parts (sym f.text_is ∙ r.bytes_are))

whole_above : (limit n : ℕ) (b : Bool) (ps qs : List (List ℕ)) (final x : List ℕ) → n < 2 ^ 31 → IsPart final → limit < length (joined qs) + n → length (joined ps) + length final ≤ limit → GoesOn ps qs (fragment true final) (header b n ++ x) → ⊥
whole_above limit n b ps qs final x below part over within (LeftFirst [] are e h) =
    let heads = header_once true b (length final) n final x part below h in
    let lens : length (joined qs) ≡ length (joined ps) = ap (λ k. length (joined k)) (e ∙ append-nil ps) in
    omega (arith, heads.1)
whole_above limit n b ps qs final x below part over within (LeftFirst (m ∷ more) are e h) =
    last_or_not final m [] (unended more ++ (header b n ++ x)) part are.0 (append-nil (fragment true final) ∙ h ∙ append_assoc (fragment false m) (unended more) (header b n ++ x))
whole_above limit n b ps qs final x below part over within (RightFirst m more are e h) =
    before_within limit n b qs m more x (unended more ++ fragment true final) below are.0 over (subst (λ k. length (joined k) ≤ limit) e (omega arith)) (h ∙ append_assoc (fragment false m) (unended more) (fragment true final))

record_within : (limit : ℕ) (content text : List ℕ) → IsRecord content text → length content ≤ limit → IsWithin limit text
record_within limit content text s within r =
    let len : length content ≡ length (joined s.parts) + length s.final = ap length s.content_is ∙ length-append (joined s.parts) s.final in
    whole_above limit r.n r.last s.parts r.parts s.final r.after r.below s.final_is r.too_long (omega arith)
    (go_on s.parts r.parts (fragment true s.final) (header r.last r.n ++ r.after) s.are_parts r.are_parts (sym s.text_is ∙ r.bytes_are))

header_reports : (limit : ℕ) (text content tail : List ℕ) → length tail < 4 → length content ≤ limit → Follows text content tail [] → BeginsNone IsRecord text × IsWithin limit text
header_reports limit text content tail short within f =
    let len : length content ≡ length (joined f.parts) = ap length (f.content_is ∙ append-nil (joined f.parts)) in (
      begins_none limit text content tail [] f 0 (InHeader short),
      follows_within limit text content tail [] f (omega arith) (InHeader short),
    )

body_reports : (limit left : ℕ) (last : Bool) (text content got : List ℕ) → 0 < left → length got + left < 2 ^ 31 → length content + left ≤ limit → Follows text content (header last (length got + left) ++ got) got → BeginsNone IsRecord text × IsWithin limit text
body_reports limit left last text content got some below within f =
    let len : length content ≡ length (joined f.parts) + length got = ap length f.content_is ∙ length-append (joined f.parts) got in
    let tail = header last (length got + left) ++ got in
    let short : IsShort limit (length (joined f.parts)) tail = InBody last (length got + left) got below (omega arith) (omega arith) refl in (
      begins_none limit text content tail got f (length (joined f.parts)) short,
      follows_within limit text content tail got f (omega arith) short,
    )

stage_reports : (limit : ℕ) (stage : Stage) (content text : List ℕ) → Leads limit stage content text → StageReports stage limit content text
stage_reports limit (Header bytes have) content text u = header_reports limit text content (take have bytes) (omega (arith, length-take have bytes)) u.1 u.2
stage_reports limit (Body last left) content text u = body_reports limit left last text content u.1 u.2 u.3 u.0 u.4
stage_reports limit Ready content text u = (u.1, u.0, record_within limit content text u.1 u.0)
stage_reports limit Failed content text u = tt

pub unfinished_reports : UnfinishedReports
unfinished_reports text p u = stage_reports p.limit p.stage p.content text u

-- ---- records one after another

pub records_grow : RecordsGrow
records_grow bytes [] rest more r = ap (λ t. t ++ more) r
records_grow bytes (content ∷ records) rest more r =
    let b = r.1 in
    let grown : bytes ++ more ≡ b.text ++ (r.0 ++ more) = ap (λ t. t ++ more) b.bytes_are ∙ append_assoc b.text r.0 more in
    (r.0 ++ more, record { text = b.text; encoded = b.encoded; bytes_are = grown }, records_grow r.0 records rest more r.2)

pub records_close : RecordsClose
records_close bytes [] content rest r is = ([], record { text = rest; encoded = is; bytes_are = sym r ∙ sym (append-nil rest) }, refl)
records_close bytes (first ∷ records) content rest r is = (r.0, r.1, records_close r.0 records content rest r.2 is)

feeds_keep : (bytes taken : List ℕ) (records : List (List ℕ)) (old new : Progress) → HasRead bytes records old → Moves old taken new → HasRead (bytes ++ taken) records new
feeds_keep bytes taken records old new h m = record { rest = h.rest ++ taken; whole = records_grow bytes records h.rest taken h.whole; unfinished = m h.rest h.unfinished }

nexts_keep : (bytes : List ℕ) (records : List (List ℕ)) (old new : Progress) → HasRead bytes records old → old.stage ≡ Ready → Unfinished [] new → HasRead bytes (records ++ old.content ∷ []) new
nexts_keep bytes records old new h e u =
    let lead : Leads old.limit Ready old.content h.rest = subst (λ s. Leads old.limit s old.content h.rest) e h.unfinished in
    record { rest = []; whole = records_close bytes records old.content h.rest h.whole lead.1; unfinished = u }

pub readers_keep : ReadersKeep
readers_keep = record { feeds = feeds_keep; nexts = nexts_keep }
