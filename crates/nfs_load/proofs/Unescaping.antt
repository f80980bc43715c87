-- Texts that are unescaped byte by byte, into little room.
use Rattle.std.proofs.Common.{◌==◌, Result, Ok, Err, ◌≡◌, ◌≢◌, ℕ, ◌≤◌, true, false, List, [], ◌∷◌, ◌++◌, length, Option, Some, None, option_map, refl, sym, ap, ◌∙◌, append_assoc, append-nil, arith}
use Rattle.std.specs.Result.{is_ok}
use Rattle.std.specs.Prelude.{OnErr, OnOk, if◌then◌else◌}
use Rattle.std.proofs.lemmas.Bool.{eqb-true, le-leb, lt-leb}
use Rattle.std.proofs.lemmas.List.{length-append}
use Rattle.nfs_load.specs.Names.{at_most, first_byte, unescaped}
use Rattle.nfs_load.proofs.Names.{unescaped_at, unescaped_nowhere}

-- what is unescaped goes after these bytes
abbrev pub after : List ℕ → Option (List ℕ) → Option (List ℕ)
after bytes rest = option_map (λ it. bytes ++ it) rest

after_one_more : (bytes : List ℕ) (byte : ℕ) (rest : Option (List ℕ)) → after (bytes ++ byte ∷ []) rest ≡ after bytes (option_map (λ it. byte ∷ it) rest)
after_one_more bytes byte None = refl
after_one_more bytes byte (Some it) = ap Some (append_assoc bytes (byte ∷ []) it)

-- one byte more
pub goes_on : (bytes text left : List ℕ) (byte : ℕ) (whole : Option (List ℕ)) → Some (byte, left) ≡ first_byte text → after bytes (unescaped text) ≡ whole
    → after (bytes ++ byte ∷ []) (unescaped left) ≡ whole
goes_on bytes text left byte whole first so_far = after_one_more bytes byte (unescaped left) ∙ ap (after bytes) (sym (unescaped_at text byte left (sym first))) ∙ so_far

-- no byte is first
pub nowhere : (most : ℕ) (bytes text : List ℕ) (whole : Option (List ℕ)) → text ≢ [] → first_byte text ≡ None → after bytes (unescaped text) ≡ whole → at_most most whole ≡ None
nowhere most bytes text whole some first so_far = ap (at_most most) (sym so_far ∙ ap (after bytes) (unescaped_nowhere text some first))

-- no room for one more
no_room : (most : ℕ) (bytes : List ℕ) (byte : ℕ) (rest : Option (List ℕ)) → length bytes ≡ most → at_most most (after (bytes ++ byte ∷ []) rest) ≡ None
no_room most bytes byte None full = refl
no_room most bytes byte (Some it) full =
    ap (λ fits. if fits then Some ((bytes ++ byte ∷ []) ++ it) else None)
    (lt-leb (length ((bytes ++ byte ∷ []) ++ it)) most (omega (arith, full, length-append (bytes ++ byte ∷ []) it, length-append bytes (byte ∷ []))))

pub full : (most : ℕ) (bytes text left : List ℕ) (byte : ℕ) (whole : Option (List ℕ)) → Some (byte, left) ≡ first_byte text → after bytes (unescaped text) ≡ whole
    → length bytes ≡ most → at_most most whole ≡ None
full most bytes text left byte whole first so_far many =
    ap (at_most most) (sym (goes_on bytes text left byte whole first so_far)) ∙ no_room most bytes byte (unescaped left) many

-- all is unescaped
pub ended : (most : ℕ) (bytes text : List ℕ) (whole : Option (List ℕ)) → text ≡ [] → after bytes (unescaped text) ≡ whole → length bytes ≤ most → Some bytes ≡ at_most most whole
unfolding unescaped
ended most bytes text whole none so_far few =
    sym (ap (λ fits. if fits then Some bytes else None) (le-leb (length bytes) most few))
    ∙ ap (at_most most) (sym (ap Some (append-nil bytes)) ∙ sym (ap (λ t. after bytes (unescaped t)) none) ∙ so_far)

pub begins : (text : List ℕ) → after [] (unescaped text) ≡ unescaped text
begins text = of (unescaped text)
  where
    of : (o : Option (List ℕ)) → after [] o ≡ o
    of None = refl
    of (Some it) = refl

-- ---- what calls say

pub at_err : {A E P : Type 0} (result : Result A E) → false ≡ is_ok result → OnErr result P → P
at_err (Ok x) e p = cc
at_err (Err x) e p = p

pub at_ok : {A E P : Type 0} (result : Result A E) → true ≡ is_ok result → OnOk result P → P
at_ok (Ok x) e p = p
at_ok (Err x) e p = cc

pub none_of : (text : List ℕ) → (length text == 0) ≡ true → text ≡ []
none_of [] e = refl
none_of (byte ∷ text) e = absurd (let zero_is : length (byte ∷ text) ≡ 0 = eqb-true (length (byte ∷ text)) 0 e in omega (arith, zero_is))

pub some_of : (text : List ℕ) → (length text == 0) ≡ false → text ≢ []
some_of [] e = cc
some_of (byte ∷ text) e = λ none. cc
