-- Reading attributes finds their encoding.
use Rattle.std.proofs.Common.{◌≡◌, ℕ, Bool, true, false, eqb, List, [], ◌++◌, Some, Result, Ok, Err, if◌then◌else◌, append-nil, refl, sym, ap, subst, ◌∙◌}
use Rattle.std.specs.Prelude.{IsErr}
use Rattle.std.specs.Int.{w32, w64}
use Rattle.std.proofs.lemmas.Bool.{eqb-true}
use Rattle.nfs_xdr.specs.declared.fault.XdrFault.{XdrFault}
use Rattle.nfs_xdr.specs.declared.fault.XdrFault.TheVariants.{BadEnum}
use Rattle.nfs_xdr.specs.Encoding.{IsNumber, IsOptional, Begins}
use Rattle.nfs_xdr.specs.Reading.{Read, Reads, Gives, AreBytes, Finds, numbered, number_at, optional_at}
use Rattle.nfs_xdr.proofs.Finding.{finds_as, Then, finds_then, IsDone, finds_done, IsEither, finds_either, IsNothing, finds_fault, finds_image, finds_field, finds_last, finds_all, finds_none}
use Rattle.nfs_xdr.proofs.Items.{finds_u32, finds_u64, finds_enum, finds_optional}
use Rattle.nfs_attrs.specs.declared.moment.Moment.{Moment}
use Rattle.nfs_attrs.specs.declared.fattr.SpecData.{SpecData}
use Rattle.nfs_attrs.specs.declared.fattr.Fattr.{Fattr}
use Rattle.nfs_attrs.specs.declared.pre_attr.PreAttr.{PreAttr}
use Rattle.nfs_attrs.specs.declared.wcc.Wcc.{Wcc}
use Rattle.nfs_attrs.specs.declared.sattr.Sattr.{Sattr}
use Rattle.nfs_attrs.specs.declared.time_setting.TimeSetting.{TimeSetting}
use Rattle.nfs_attrs.specs.declared.time_setting.TimeSetting.TheVariants.{Leave, ServerTime, ClientTime}
use Rattle.nfs_attrs.specs.declared.file_type.FileType.{FileType}
use Rattle.nfs_attrs.specs.declared.file_type.FileType.TheVariants.{Regular, Directory, BlockDevice, CharacterDevice, SymbolicLink, Socket, Fifo}
use Rattle.nfs_attrs.specs.Encoding.{IsMoment, type_number, IsFileType, IsSpecData, IsFattr, IsPostOpAttr, IsPreAttr, IsPreOpAttr, IsWcc, IsTimeSetting, IsSattr}
use Rattle.nfs_attrs.specs.Reading.{moment_at, file_types, file_type_at, spec_data_at, fattr_at, post_op_attr_at, pre_attr_at, pre_op_attr_at, wcc_at, client_time_at, time_setting_of, time_setting_at, sattr_at}

-- ---- a reader that moves on where it found a value

-- a value stands at the front of these bytes, which are those of the input
pub found_there : {A : Type 0} (S : A → List ℕ → Type 0) (read : List ℕ → Read A) (bytes old : List ℕ) (value : A) (rest : List ℕ) → Finds S read → AreBytes bytes → bytes ≡ old → read bytes ≡ Ok (value, rest) → Begins S value old rest
found_there S read bytes old value rest finds are same ok = subst (λ b. Begins S value b rest) same (finds.found bytes value rest are ok)

-- none does, where the reader refused
pub none_there : {A : Type 0} (S : A → List ℕ → Type 0) (read : List ℕ → Read A) (old : List ℕ) (result : Result A XdrFault) → Finds S read → IsErr result → Gives (λ a. a) old old result (read old) → Reads (λ a. a) S old old result
none_there S read old (Ok value) finds is gives = absurd cc
none_there S read old (Err e) finds is gives = (finds_none S read old e finds gives.0, refl)

-- ---- the items

pub finds_moment : Finds IsMoment moment_at
finds_moment =
    finds_all IsMoment moment_at
    (finds_field (λ _. Unit {0}) (IsNumber w32) (λ (m : Moment). m.seconds) _ _ _ finds_u32 (λ seconds.
    finds_last _ (IsNumber w32) (λ (m : Moment). m.nanos) _ (λ nanos. record { seconds = seconds; nanos = nanos }) finds_u32 (λ nanos. ((tt, refl), refl)) (λ m nanos known e i. record { seconds = known.1 i; nanos = e i })))

type_numbered : (t : FileType) → numbered type_number file_types (type_number t) ≡ Some t
type_numbered Regular = refl
type_numbered Directory = refl
type_numbered BlockDevice = refl
type_numbered CharacterDevice = refl
type_numbered SymbolicLink = refl
type_numbered Socket = refl
type_numbered Fifo = refl

pub finds_file_type : Finds IsFileType file_type_at
finds_file_type = finds_enum type_number file_types type_numbered

pub finds_spec_data : Finds IsSpecData spec_data_at
finds_spec_data =
    finds_all IsSpecData spec_data_at
    (finds_field (λ _. Unit {0}) (IsNumber w32) (λ (d : SpecData). d.specdata1) _ _ _ finds_u32 (λ specdata1.
    finds_last _ (IsNumber w32) (λ (d : SpecData). d.specdata2) _ (λ specdata2. record { specdata1 = specdata1; specdata2 = specdata2 }) finds_u32 (λ specdata2. ((tt, refl), refl)) (λ d specdata2 known e i. record { specdata1 = known.1 i; specdata2 = e i })))

pub finds_fattr : Finds IsFattr fattr_at
finds_fattr =
    finds_all IsFattr fattr_at
    (finds_field (λ _. Unit {0}) IsFileType (λ (a : Fattr). a.file_type) _ _ _ finds_file_type (λ file_type.
    finds_field _ (IsNumber w32) (λ (a : Fattr). a.mode) _ _ _ finds_u32 (λ mode.
    finds_field _ (IsNumber w32) (λ (a : Fattr). a.nlink) _ _ _ finds_u32 (λ nlink.
    finds_field _ (IsNumber w32) (λ (a : Fattr). a.uid) _ _ _ finds_u32 (λ uid.
    finds_field _ (IsNumber w32) (λ (a : Fattr). a.gid) _ _ _ finds_u32 (λ gid.
    finds_field _ (IsNumber w64) (λ (a : Fattr). a.size) _ _ _ finds_u64 (λ size.
    finds_field _ (IsNumber w64) (λ (a : Fattr). a.used) _ _ _ finds_u64 (λ used.
    finds_field _ IsSpecData (λ (a : Fattr). a.rdev) _ _ _ finds_spec_data (λ rdev.
    finds_field _ (IsNumber w64) (λ (a : Fattr). a.fsid) _ _ _ finds_u64 (λ fsid.
    finds_field _ (IsNumber w64) (λ (a : Fattr). a.fileid) _ _ _ finds_u64 (λ fileid.
    finds_field _ IsMoment (λ (a : Fattr). a.atime) _ _ _ finds_moment (λ atime.
    finds_field _ IsMoment (λ (a : Fattr). a.mtime) _ _ _ finds_moment (λ mtime.
    finds_last _ IsMoment (λ (a : Fattr). a.ctime) _ (λ ctime. record { file_type = file_type; mode = mode; nlink = nlink; uid = uid; gid = gid; size = size; used = used; rdev = rdev; fsid = fsid; fileid = fileid; atime = atime; mtime = mtime; ctime = ctime }) finds_moment (λ ctime. (((((((((((((tt, refl), refl), refl), refl), refl), refl), refl), refl), refl), refl), refl), refl), refl)) (λ a ctime known e i. record { file_type = known.0.0.0.0.0.0.0.0.0.0.0.1 i; mode = known.0.0.0.0.0.0.0.0.0.0.1 i; nlink = known.0.0.0.0.0.0.0.0.0.1 i; uid = known.0.0.0.0.0.0.0.0.1 i; gid = known.0.0.0.0.0.0.0.1 i; size = known.0.0.0.0.0.0.1 i; used = known.0.0.0.0.0.1 i; rdev = known.0.0.0.0.1 i; fsid = known.0.0.0.1 i; fileid = known.0.0.1 i; atime = known.0.1 i; mtime = known.1 i; ctime = e i }))))))))))))))

pub finds_post_op_attr : Finds IsPostOpAttr post_op_attr_at
finds_post_op_attr = finds_optional IsFattr fattr_at finds_fattr

pub finds_pre_attr : Finds IsPreAttr pre_attr_at
finds_pre_attr =
    finds_all IsPreAttr pre_attr_at
    (finds_field (λ _. Unit {0}) (IsNumber w64) (λ (a : PreAttr). a.size) _ _ _ finds_u64 (λ size.
    finds_field _ IsMoment (λ (a : PreAttr). a.mtime) _ _ _ finds_moment (λ mtime.
    finds_last _ IsMoment (λ (a : PreAttr). a.ctime) _ (λ ctime. record { size = size; mtime = mtime; ctime = ctime }) finds_moment (λ ctime. (((tt, refl), refl), refl)) (λ a ctime known e i. record { size = known.0.1 i; mtime = known.1 i; ctime = e i }))))

pub finds_pre_op_attr : Finds IsPreOpAttr pre_op_attr_at
finds_pre_op_attr = finds_optional IsPreAttr pre_attr_at finds_pre_attr

pub finds_wcc : Finds IsWcc wcc_at
finds_wcc =
    finds_all IsWcc wcc_at
    (finds_field (λ _. Unit {0}) IsPreOpAttr (λ (a : Wcc). a.before) _ _ _ finds_pre_op_attr (λ before.
    finds_last _ IsPostOpAttr (λ (a : Wcc). a.after) _ (λ after. record { before = before; after = after }) finds_post_op_attr (λ after. ((tt, refl), refl)) (λ a after known e i. record { before = known.1 i; after = e i })))

-- ---- the setting of a time

abbrev IsClientTime : TimeSetting → List ℕ → Type 0
IsClientTime s text = (m : Moment) × (ClientTime m ≡ s) × IsMoment m text

-- what follows its number
abbrev Follows : Bool → Bool → Bool → TimeSetting → List ℕ → Type 0
Follows zero one two = IsEither zero (IsDone Leave) (IsEither one (IsDone ServerTime) (IsEither two IsClientTime IsNothing))

abbrev FollowsOf : ℕ → TimeSetting → List ℕ → Type 0
FollowsOf n = Follows (eqb n 0) (eqb n 1) (eqb n 2)

finds_time_setting_of : (n : ℕ) → Finds (FollowsOf n) (time_setting_of n)
finds_time_setting_of n =
    finds_either (eqb n 0) (IsDone Leave) (IsEither (eqb n 1) (IsDone ServerTime) (IsEither (eqb n 2) IsClientTime IsNothing)) (λ bytes. Ok (Leave, bytes)) (λ bytes. if eqb n 1 then Ok (ServerTime, bytes) else (if eqb n 2 then client_time_at bytes else Err BadEnum)) (finds_done Leave)
    (finds_either (eqb n 1) (IsDone ServerTime) (IsEither (eqb n 2) IsClientTime IsNothing) (λ bytes. Ok (ServerTime, bytes)) (λ bytes. if eqb n 2 then client_time_at bytes else Err BadEnum) (finds_done ServerTime)
    (finds_either (eqb n 2) IsClientTime IsNothing client_time_at (λ bytes. Err BadEnum) (finds_image IsMoment ClientTime moment_at finds_moment) (finds_fault BadEnum)))

-- a number with nothing after it
alone : (n k : ℕ) (v s : TimeSetting) (front back text : List ℕ) → ((t : List ℕ) → IsNumber w32 k t → IsTimeSetting v t) → n ≡ k → IsNumber w32 n front → IsDone v s back → text ≡ front ++ back → IsTimeSetting s text
alone n k v s front back text means is number d e =
    let whole : text ≡ front = e ∙ ap (λ t. front ++ t) d.text_is ∙ append-nil front in
    subst (λ t. IsTimeSetting s t) (sym whole) (subst (λ x. IsTimeSetting x front) d.value_is (means front (subst (λ m. IsNumber w32 m front) is number)))

of_time_setting : (n : ℕ) (zero one two : Bool) (s : TimeSetting) (front back text : List ℕ) → eqb n 0 ≡ zero → eqb n 1 ≡ one → eqb n 2 ≡ two → IsNumber w32 n front → Follows zero one two s back → text ≡ front ++ back → IsTimeSetting s text
of_time_setting n true one two s front back text a b c number d e = alone n 0 Leave s front back text (λ t number. number) (eqb-true n 0 a) number d e
of_time_setting n false true two s front back text a b c number d e = alone n 1 ServerTime s front back text (λ t number. number) (eqb-true n 1 b) number d e
of_time_setting n false false true s front back text a b c number d e =
    subst (λ x. IsTimeSetting x text) d.1 (record { front = front; first = subst (λ k. IsNumber w32 k front) (eqb-true n 2 c) number; back = back; second = d.2; text_is = e })
of_time_setting n false false false s front back text a b c number d e = absurd d

to_time_setting : (s : TimeSetting) (text : List ℕ) → IsTimeSetting s text → Then (IsNumber w32) FollowsOf s text
to_time_setting Leave text s = record { first = 0; front = text; front_is = s; back = []; back_is = record { value_is = refl; text_is = refl }; text_is = sym (append-nil text) }
to_time_setting ServerTime text s = record { first = 1; front = text; front_is = s; back = []; back_is = record { value_is = refl; text_is = refl }; text_is = sym (append-nil text) }
to_time_setting (ClientTime m) text s = record { first = 2; front = s.front; front_is = s.first; back = s.back; back_is = (m, refl, s.second); text_is = s.text_is }

pub finds_time_setting : Finds IsTimeSetting time_setting_at
finds_time_setting =
    finds_as (Then (IsNumber w32) FollowsOf) IsTimeSetting time_setting_at
    (λ s text t. of_time_setting t.first (eqb t.first 0) (eqb t.first 1) (eqb t.first 2) s t.front t.back text refl refl refl t.front_is t.back_is t.text_is)
    to_time_setting
    (finds_then (IsNumber w32) FollowsOf (number_at w32) time_setting_of finds_u32 finds_time_setting_of)

finds_optional_u32 : Finds (IsOptional (IsNumber w32)) (optional_at (number_at w32))
finds_optional_u32 = finds_optional (IsNumber w32) (number_at w32) finds_u32

finds_optional_u64 : Finds (IsOptional (IsNumber w64)) (optional_at (number_at w64))
finds_optional_u64 = finds_optional (IsNumber w64) (number_at w64) finds_u64

pub finds_sattr : Finds IsSattr sattr_at
finds_sattr =
    finds_all IsSattr sattr_at
    (finds_field (λ _. Unit {0}) (IsOptional (IsNumber w32)) (λ (a : Sattr). a.mode) _ _ _ finds_optional_u32 (λ mode.
    finds_field _ (IsOptional (IsNumber w32)) (λ (a : Sattr). a.uid) _ _ _ finds_optional_u32 (λ uid.
    finds_field _ (IsOptional (IsNumber w32)) (λ (a : Sattr). a.gid) _ _ _ finds_optional_u32 (λ gid.
    finds_field _ (IsOptional (IsNumber w64)) (λ (a : Sattr). a.size) _ _ _ finds_optional_u64 (λ size.
    finds_field _ IsTimeSetting (λ (a : Sattr). a.atime) _ _ _ finds_time_setting (λ atime.
    finds_last _ IsTimeSetting (λ (a : Sattr). a.mtime) _ (λ mtime. record { mode = mode; uid = uid; gid = gid; size = size; atime = atime; mtime = mtime }) finds_time_setting (λ mtime. ((((((tt, refl), refl), refl), refl), refl), refl)) (λ a mtime known e i. record { mode = known.0.0.0.0.1 i; uid = known.0.0.0.1 i; gid = known.0.0.1 i; size = known.0.1 i; atime = known.1 i; mtime = e i })))))))
