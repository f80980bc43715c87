-- What it means that two trees agree outside a file.
use Rattle.std.proofs.Common.{◌≡◌, ◌≢◌, ℕ, Bool, true, false, List, [], ◌∷◌, map, Option, Some, None, refl, sym, ap, ◌∙◌, arith}
use Rattle.std.specs.Prelude.{nat_eq, is_some, option_map}
use Rattle.nfs_inodes.proofs.Lists.{by_number, none_from, same_tail, true_and_false}
use Rattle.std.proofs.lemmas.Bool.{eq-eqb}
use Rattle.nfs_inodes.proofs.Maps.{apart_number, at_here, at_after, rising_bounds}
use Rattle.nfs_inodes.specs.Law.{AreRising}
use Rattle.nfs_inodes.specs.Reading.{bytes_at}
use Rattle.nfs_inodes.specs.Tree.{Tree, File, Kind, Regular, Directory, Link, at, on_some, bytes_in}
use Rattle.nfs_policy.proofs.Blanks.{shown, at_blank}
use Rattle.nfs_policy.proofs.Calls.{bytes_other}
use Rattle.nfs_policy.proofs.Changes.{where_twice}
use Rattle.nfs_policy.specs.Shape.{blank_kind, blank_file, blank_where, blank, AgreeingIsThat}

abbrev all : ℕ → Bool
all n = true

-- ---- what agrees has one shape, and one content of the other files

all_where : (b : Bool) (f : File) → blank_file (blank_where b f) ≡ blank_file f
all_where true f = where_twice true f
all_where false f = refl

all_after : (p : ℕ → Bool) (es : List (ℕ × File)) → map (shown all) (map (shown p) es) ≡ map (shown all) es
all_after p [] = refl
all_after p (e ∷ es) = λ i. (e.0, all_where (p e.0) e.1 i) ∷ all_after p es i

shape_blank : (p : ℕ → Bool) (t : Tree) → blank all (blank p t) ≡ blank all t
shape_blank p t = λ i. record t { files = all_after p t.files i }

apart : (f n : ℕ) → n ≢ f → nat_eq f n ≡ false
apart f n o = apart_number f n (λ e. o (sym e))

-- ---- and the other way round

abbrev bytes_among : List (ℕ × File) → ℕ → List ℕ
bytes_among es n = on_some (at n es) [] (λ (f : File). bytes_in f.kind)

-- a kind is given by its shape and its bytes
kind_of : (k l : Kind) → blank_kind k ≡ blank_kind l → bytes_in k ≡ bytes_in l → k ≡ l
kind_of (Regular b) (Regular c) e g = ap Regular g
kind_of (Regular b) (Directory p n es) e g = cc
kind_of (Regular b) (Link q) e g = cc
kind_of (Directory p n es) (Regular c) e g = cc
kind_of (Directory p n es) (Directory q m fs) e g = e
kind_of (Directory p n es) (Link q) e g = cc
kind_of (Link q) (Regular c) e g = cc
kind_of (Link q) (Directory p n es) e g = cc
kind_of (Link q) (Link r) e g = e

file_of : (f g : File) → blank_file f ≡ blank_file g → bytes_in f.kind ≡ bytes_in g.kind → f ≡ g
file_of f g e b =
    let k : f.kind ≡ g.kind = kind_of f.kind g.kind (ap (λ (h : File). h.kind) e) b in
    λ i. record {
      volume = (e i).volume;
      kind = k i;
      mode = (e i).mode;
      uid = (e i).uid;
      gid = (e i).gid;
      atime = (e i).atime;
      mtime = (e i).mtime;
      ctime = (e i).ctime;
      tag = (e i).tag;
      verifier = (e i).verifier;
    }

head_number : {x y : ℕ × File} {xs ys : List (ℕ × File)} → x ∷ xs ≡ y ∷ ys → x ≡ y
head_number e = cc

where_of : (b : Bool) (g h : File) → blank_file g ≡ blank_file h → (b ≡ false → bytes_in g.kind ≡ bytes_in h.kind) → blank_where b g ≡ blank_where b h
where_of true g h e same = e
where_of false g h e same = file_of g h e (same refl)

none_among : (es : List (ℕ × File)) (n : ℕ) → ((h : File) → at n es ≡ Some h → ⊥) → bytes_among es n ≡ []
none_among es n none = ap (λ o. on_some o [] (λ (f : File). bytes_in f.kind)) (none_from (at n es) none)

-- a number that lives in one lives in the other
there_shown : (p : ℕ → Bool) (es : List (ℕ × File)) (n : ℕ) → is_some (at n (map (shown p) es)) ≡ is_some (at n es)
there_shown p es n = ap is_some (at_blank p n es) ∙ of (at n es)
  where
    of : (o : Option File) → is_some (option_map (blank_where (p n)) o) ≡ is_some o
    of None = refl
    of (Some f) = refl

none_there : (es gs : List (ℕ × File)) → map (shown all) es ≡ map (shown all) gs → (n : ℕ) → ((h : File) → at n es ≡ Some h → ⊥) → bytes_among gs n ≡ []
none_there es gs e n none = ap (λ o. on_some o [] (λ (f : File). bytes_in f.kind)) (of (at n gs) (sym (there_shown all gs n) ∙ ap (λ l. is_some (at n l)) (sym e) ∙ there_shown all es n ∙ ap is_some (none_from (at n es) none)))
  where
    of : (o : Option File) → is_some o ≡ is_some {T = File} None → o ≡ None
    of None e = refl
    of (Some f) e = cc

files_agree : (f low next : ℕ) (es gs : List (ℕ × File)) → AreRising low es next → map (shown all) es ≡ map (shown all) gs → ((n : ℕ) → n ≢ f → bytes_among es n ≡ bytes_among gs n) → map (shown (nat_eq f)) es ≡ map (shown (nat_eq f)) gs
files_agree f low next [] [] r e same = refl
files_agree f low next [] (g ∷ gs) r e same = cc
files_agree f low next (x ∷ es) [] r e same = cc
files_agree f low next (x ∷ es) (g ∷ gs) r e same =
    let head = head_number e in
    let number : x.0 ≡ g.0 = ap (λ (p : ℕ × File). p.0) head in
    let file : blank_file x.1 ≡ blank_file g.1 = ap (λ (p : ℕ × File). p.1) head in
    let here : nat_eq f x.0 ≡ false → bytes_in x.1.kind ≡ bytes_in g.1.kind = λ o.
    ap (λ o. on_some o [] (λ (f : File). bytes_in f.kind)) (sym (at_here x es))
    ∙ same x.0 (λ s. not_same o (sym s))
    ∙ ap (bytes_among (g ∷ gs)) number ∙ ap (λ o. on_some o [] (λ (f : File). bytes_in f.kind)) (at_here g gs) in
    λ i. (number i, now number (where_of (nat_eq f x.0) x.1 g.1 file here) i) ∷ files_agree f x.0 next es gs r.1 (same_tail e) (rest (same_tail e) number) i
  where
    not_same : {n m : ℕ} → nat_eq n m ≡ false → n ≡ m → ⊥
    not_same {n} {m} o s = true_and_false (eq-eqb n m s) o

    now : x.0 ≡ g.0 → blank_where (nat_eq f x.0) x.1 ≡ blank_where (nat_eq f x.0) g.1 → blank_where (nat_eq f x.0) x.1 ≡ blank_where (nat_eq f g.0) g.1
    now number h = h ∙ ap (λ n. blank_where (nat_eq f n) g.1) number

    rest : map (shown all) es ≡ map (shown all) gs → x.0 ≡ g.0 → (n : ℕ) → n ≢ f → bytes_among es n ≡ bytes_among gs n
    rest tail number n o = by_number n x.0
        (λ s. none_among es n (λ h at_n. let b = (rising_bounds x.0 next es n h r.1 at_n).0 in omega (arith, b, s)) ∙ sym (none_there es gs tail n (λ h at_n. let b = (rising_bounds x.0 next es n h r.1 at_n).0 in omega (arith, b, s))))
        (λ a. ap (λ o. on_some o [] (λ (f : File). bytes_in f.kind)) (sym (at_after n x es a)) ∙ same n o ∙ ap (λ o. on_some o [] (λ (f : File). bytes_in f.kind)) (at_after n g gs (λ s. a (s ∙ sym number))))

pub agreeing_is_that : AgreeingIsThat
agreeing_is_that f t u law = (
  λ agree. (
    sym (shape_blank (nat_eq f) t) ∙ ap (blank all) agree ∙ shape_blank (nat_eq f) u,
    λ n o. sym (bytes_other (nat_eq f) t n (apart f n o)) ∙ ap (λ w. bytes_at w n) agree ∙ bytes_other (nat_eq f) u n (apart f n o),
  ),
  λ same. λ i. record {
    files = files_agree f 0 t.next t.files u.files law.rising (ap (λ (w : Tree). w.files) same.0) same.1 i;
    next = (same.0 i).next;
    key = (same.0 i).key;
    volumes = (same.0 i).volumes;
    limits = (same.0 i).limits;
  },
)
