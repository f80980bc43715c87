-- What is written of attributes is their encoding.
use Rattle.std.proofs.Common.{◌≡◌, ℕ, List, [], ◌∷◌, ◌++◌, refl, ap, subst, ◌∙◌}
use Rattle.std.specs.Int.{w32, w64, to_be_bytes}
use Rattle.nfs_xdr.specs.Encoding.{IsNumber, numbers_text, hypers_text}
use Rattle.nfs_xdr.proofs.Writing.{followed}
use Rattle.nfs_attrs.specs.declared.fattr.Fattr.{Fattr}
use Rattle.nfs_attrs.specs.declared.moment.Moment.{Moment}
use Rattle.nfs_attrs.specs.declared.pre_attr.PreAttr.{PreAttr}
use Rattle.nfs_attrs.specs.Encoding.{IsMoment, IsAfterType, IsFattr, type_number, moment_text, after_type_text, fattr_text, pre_attr_text}

-- a text is that of hyper integers, one after another
record AreHypers (ns text : List ℕ) : Type 0 where
  text_is : hypers_text ns ≡ text

hyper_then : (n : ℕ) (ns rest : List ℕ) → AreHypers ns rest → AreHypers (n ∷ ns) (to_be_bytes w64 n ++ rest)
hyper_then n ns rest more = record { text_is = ap (λ t. to_be_bytes w64 n ++ t) more.text_is }

-- one of them is that of two integers
pair_then : (n high low : ℕ) (ns rest : List ℕ) → to_be_bytes w64 n ≡ numbers_text (high ∷ low ∷ []) → AreHypers ns rest → AreHypers (n ∷ ns) (to_be_bytes w32 high ++ to_be_bytes w32 low ++ rest)
pair_then n high low ns rest pair more = record { text_is = ap (λ t. t ++ hypers_text ns) pair ∙ ap (λ t. to_be_bytes w32 high ++ to_be_bytes w32 low ++ t) more.text_is }

none : AreHypers [] []
none = record { text_is = refl }

-- the hyper integers of attributes, some of which are those of two fields, are their text after the kind of file
pub fattr_hypers :
    (a : Fattr) (rights owners device atime mtime ctime : ℕ)
    → to_be_bytes w64 rights ≡ numbers_text (a.mode ∷ a.nlink ∷ [])
    → to_be_bytes w64 owners ≡ numbers_text (a.uid ∷ a.gid ∷ [])
    → to_be_bytes w64 device ≡ numbers_text (a.rdev.specdata1 ∷ a.rdev.specdata2 ∷ [])
    → to_be_bytes w64 atime ≡ numbers_text (a.atime.seconds ∷ a.atime.nanos ∷ [])
    → to_be_bytes w64 mtime ≡ numbers_text (a.mtime.seconds ∷ a.mtime.nanos ∷ [])
    → to_be_bytes w64 ctime ≡ numbers_text (a.ctime.seconds ∷ a.ctime.nanos ∷ [])
    → hypers_text (rights ∷ owners ∷ a.size ∷ a.used ∷ device ∷ a.fsid ∷ a.fileid ∷ atime ∷ mtime ∷ ctime ∷ []) ≡ after_type_text a
fattr_hypers a rights owners device atime mtime ctime rights_are owners_are device_is atime_is mtime_is ctime_is =
    (pair_then _ _ _ _ _ rights_are
    (pair_then _ _ _ _ _ owners_are
    (hyper_then _ _ _
    (hyper_then _ _ _
    (pair_then _ _ _ _ _ device_is
    (hyper_then _ _ _
    (hyper_then _ _ _
    (pair_then _ _ _ _ _ atime_is
    (pair_then _ _ _ _ _ mtime_is
    (pair_then _ _ _ _ _ ctime_is none)))))))))).text_is

-- a number and the kind of file as one hyper integer
pub led_by_type : (a : Fattr) (first kind n : ℕ) → kind ≡ type_number a.file_type → to_be_bytes w64 n ≡ numbers_text (first ∷ kind ∷ [])
    → hypers_text (n ∷ []) ++ after_type_text a ≡ to_be_bytes w32 first ++ fattr_text a
led_by_type a first kind n kind_is pair =
    ap (λ t. t ++ after_type_text a) pair ∙ ap (λ k. to_be_bytes w32 first ++ to_be_bytes w32 k ++ after_type_text a) kind_is

pub moment_numbers : (m : Moment) → numbers_text (m.seconds ∷ m.nanos ∷ []) ≡ moment_text m
moment_numbers m = refl

pub pre_attr_hypers : (a : PreAttr) (mtime ctime : ℕ)
    → to_be_bytes w64 mtime ≡ numbers_text (a.mtime.seconds ∷ a.mtime.nanos ∷ [])
    → to_be_bytes w64 ctime ≡ numbers_text (a.ctime.seconds ∷ a.ctime.nanos ∷ [])
    → hypers_text (a.size ∷ mtime ∷ ctime ∷ []) ≡ pre_attr_text a
pre_attr_hypers a mtime ctime mtime_is ctime_is =
    (hyper_then _ _ _
    (pair_then _ _ _ _ _ mtime_is
    (pair_then _ _ _ _ _ ctime_is none))).text_is

abbrev IsWord : ℕ → Type 0
IsWord n = IsNumber w32 n (to_be_bytes w32 n)

abbrev IsHyper : ℕ → Type 0
IsHyper n = IsNumber w64 n (to_be_bytes w64 n)

pub after_type_written :
    (a : Fattr) → IsWord a.mode → IsWord a.nlink → IsWord a.uid → IsWord a.gid → IsHyper a.size → IsHyper a.used → IsWord a.rdev.specdata1 → IsWord a.rdev.specdata2 → IsHyper a.fsid → IsHyper a.fileid
    → IsMoment a.atime (moment_text a.atime) → IsMoment a.mtime (moment_text a.mtime) → IsMoment a.ctime (moment_text a.ctime) → IsAfterType a (after_type_text a)
after_type_written a mode nlink uid gid size used specdata1 specdata2 fsid fileid atime mtime ctime =
    followed _ _ _ _ mode
    (followed _ _ _ _ nlink
    (followed _ _ _ _ uid
    (followed _ _ _ _ gid
    (followed _ _ _ _ size
    (followed _ _ _ _ used
    (followed _ _ _ _ (followed _ _ _ _ specdata1 specdata2)
    (followed _ _ _ _ fsid
    (followed _ _ _ _ fileid
    (followed _ _ _ _ atime
    (followed _ _ _ _ mtime ctime))))))))))

pub fattr_written : (a : Fattr) (kind : ℕ) → kind ≡ type_number a.file_type → IsWord kind → IsAfterType a (after_type_text a) → IsFattr a (fattr_text a)
fattr_written a kind kind_is word after = followed _ _ _ _ (subst IsWord kind_is word) after
