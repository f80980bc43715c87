-- Results are encoded once.
use Rattle.std.proofs.Common.{◌≡◌, ℕ, List, [], ◌∷◌, ◌++◌, length, Ok, Err, refl, sym, ap, ◌∙◌, append_assoc, arith}
use Rattle.std.specs.Int.{w32, w64}
use Rattle.nfs_xdr.specs.Encoding.{IsNumber, IsBoolean, IsEnum, IsOptional, ◌⨾◌, EncodesOnce}
use Rattle.nfs_xdr.specs.Reading.{number_at, boolean_at, optional_at}
use Rattle.nfs_xdr.proofs.Finding.{once}
use Rattle.nfs_xdr.proofs.Items.{finds_u32, finds_u64, finds_boolean, finds_optional}
use Rattle.nfs_attrs.specs.Encoding.{IsMoment, IsFattr, IsPostOpAttr, IsWcc}
use Rattle.nfs_attrs.specs.Reading.{moment_at, fattr_at, post_op_attr_at, wcc_at}
use Rattle.nfs_attrs.proofs.Finds.{finds_moment, finds_fattr, finds_post_op_attr, finds_wcc}
use Rattle.nfs_args.specs.Encoding.{Arm, IsBare, IsHandle, IsString, stability_number}
use Rattle.nfs_args.specs.Reading.{handle_at, string_at, stability_at}
use Rattle.nfs_args.proofs.Finds.{finds_handle, finds_string, finds_stability}
use Rattle.nfs_args.specs.declared.failed.Failed.{Failed}
use Rattle.nfs_args.specs.declared.found.Found.{Found}
use Rattle.nfs_args.specs.declared.rights.Rights.{Rights}
use Rattle.nfs_args.specs.declared.link_path.LinkPath.{LinkPath}
use Rattle.nfs_args.specs.declared.read_data.ReadData.{ReadData}
use Rattle.nfs_args.specs.declared.written.Written.{Written}
use Rattle.nfs_args.specs.declared.committed.Committed.{Committed}
use Rattle.nfs_args.specs.declared.made.Made.{Made}
use Rattle.nfs_args.specs.declared.renamed.Renamed.{Renamed}
use Rattle.nfs_args.specs.declared.linked.Linked.{Linked}
use Rattle.nfs_args.specs.declared.volume_space.Space.{Space}
use Rattle.nfs_args.specs.declared.volume_space.VolumeSpace.{VolumeSpace}
use Rattle.nfs_args.specs.declared.server_limits.Transfer.{Transfer}
use Rattle.nfs_args.specs.declared.server_limits.ServerLimits.{ServerLimits}
use Rattle.nfs_args.specs.declared.path_limits.PathLimits.{PathLimits}
use Rattle.nfs_args.specs.Results.{IsEmpty, IsFailed, IsResult, IsFound, IsRights, IsLinkPath, IsReadData, IsWritten, IsCommitted, IsMade, IsRenamed, IsLinked, IsSpace, IsRoom, IsTransfer, IsServerLimits, IsPathLimits}

-- ---- one field after another

-- Where two encodings stand at the front of the same bytes, they are one, and their values agree.
abbrev pub Agrees : {B : Type 0} → (B → B → Type 0) → (B → List ℕ → Type 0) → Type 0
Agrees {B} Same Encodes = (v w : B) (a b x y : List ℕ) → Encodes v a → Encodes w b → a ++ x ≡ b ++ y → Same v w × (a ≡ b)

-- what follows two equal texts at the front of the same bytes
pub cut_off : (a b x y : List ℕ) → a ≡ b → a ++ x ≡ b ++ y → x ≡ y
cut_off [] b x y same e = e ∙ sym (ap (λ t. t ++ y) same)
cut_off (n ∷ a) b x y same e = cut_off a a x y refl (tail_is n (a ++ x) (a ++ y) (e ∙ sym (ap (λ t. t ++ y) same)))
  where
    tail_is : (n : ℕ) (s t : List ℕ) → n ∷ s ≡ n ∷ t → s ≡ t
    tail_is n s t e = cc

-- one field
pub field : {A B : Type 0} (S : A → List ℕ → Type 0) (of : B → A) → EncodesOnce S → Agrees (λ v w. of v ≡ of w) (λ v. S (of v))
field S of one v w a b x y p q e = one (of v) (of w) a b x y p q e

-- a field, and those after it
pub fields : {A B : Type 0} (S : A → List ℕ → Type 0) (of : B → A) (Same : B → B → Type 0) (Others : B → List ℕ → Type 0) → EncodesOnce S → Agrees Same Others → Agrees (λ v w. (of v ≡ of w) × Same v w) (λ v. S (of v) ⨾ Others v)
fields S of Same Others one others v w a b x y p q e =
    let whole : p.front ++ (p.back ++ x) ≡ q.front ++ (q.back ++ y) =
    sym (append_assoc p.front p.back x) ∙ ap (λ t. t ++ x) (sym p.text_is) ∙ e ∙ ap (λ t. t ++ y) q.text_is ∙ append_assoc q.front q.back y in
    let first = one (of v) (of w) p.front q.front (p.back ++ x) (q.back ++ y) p.first q.first whole in
    let rest = others v w p.back q.back x y p.second q.second (cut_off p.front q.front (p.back ++ x) (q.back ++ y) first.1 whole) in
    ((first.0, rest.0), p.text_is ∙ ap (λ t. t ++ p.back) first.1 ∙ ap (λ t. q.front ++ t) rest.1 ∙ sym q.text_is)

-- a value is known by its fields
pub by_fields : {B : Type 0} (Same : B → B → Type 0) (S : B → List ℕ → Type 0) → Agrees Same S → ((v w : B) → Same v w → v ≡ w) → EncodesOnce S
by_fields Same S agrees known v w a b x y p q e =
    let both = agrees v w a b x y p q e in
    (known v w both.0, both.1)

-- ---- items

pub word_once : EncodesOnce (IsNumber w32)
word_once = once (IsNumber w32) (number_at w32) finds_u32

pub hyper_once : EncodesOnce (IsNumber w64)
hyper_once = once (IsNumber w64) (number_at w64) finds_u64

pub boolean_once : EncodesOnce IsBoolean
boolean_once = once IsBoolean boolean_at finds_boolean

pub handle_once : EncodesOnce IsHandle
handle_once = once IsHandle handle_at finds_handle

pub string_once : EncodesOnce IsString
string_once = once IsString string_at finds_string

stability_once : EncodesOnce (IsEnum stability_number)
stability_once = once (IsEnum stability_number) stability_at finds_stability

moment_once : EncodesOnce IsMoment
moment_once = once IsMoment moment_at finds_moment

pub attributes_once : EncodesOnce IsPostOpAttr
attributes_once = once IsPostOpAttr post_op_attr_at finds_post_op_attr

pub wcc_once : EncodesOnce IsWcc
wcc_once = once IsWcc wcc_at finds_wcc

pub fattr_once : EncodesOnce IsFattr
fattr_once = once IsFattr fattr_at finds_fattr

pub post_op_handle_once : EncodesOnce (IsOptional IsHandle)
post_op_handle_once = once (IsOptional IsHandle) (optional_at handle_at) (finds_optional IsHandle handle_at finds_handle)

-- ---- the arms of the status 0

pub found_once : EncodesOnce IsFound
found_once =
    by_fields _ IsFound
    (fields IsHandle (λ (a : Found). a.file) _ _ handle_once
    (fields IsPostOpAttr (λ (a : Found). a.attributes) _ _ attributes_once
    (field IsPostOpAttr (λ (a : Found). a.dir) attributes_once)))
    (λ v w r i. record { file = r.0 i; attributes = r.1.0 i; dir = r.1.1 i })

pub rights_once : EncodesOnce IsRights
rights_once =
    by_fields _ IsRights
    (fields IsPostOpAttr (λ (a : Rights). a.attributes) _ _ attributes_once
    (field (IsNumber w32) (λ (a : Rights). a.rights) word_once))
    (λ v w r i. record { attributes = r.0 i; rights = r.1 i })

pub link_path_once : EncodesOnce IsLinkPath
link_path_once =
    by_fields _ IsLinkPath
    (fields IsPostOpAttr (λ (a : LinkPath). a.attributes) _ _ attributes_once
    (field IsString (λ (a : LinkPath). a.path) string_once))
    (λ v w r i. record { attributes = r.0 i; path = r.1 i })

pub written_once : EncodesOnce IsWritten
written_once =
    by_fields _ IsWritten
    (fields IsWcc (λ (a : Written). a.file) _ _ wcc_once
    (fields (IsNumber w32) (λ (a : Written). a.count) _ _ word_once
    (fields (IsEnum stability_number) (λ (a : Written). a.committed) _ _ stability_once
    (field (IsNumber w64) (λ (a : Written). a.verifier) hyper_once))))
    (λ v w r i. record { file = r.0 i; count = r.1.0 i; committed = r.1.1.0 i; verifier = r.1.1.1 i })

pub committed_once : EncodesOnce IsCommitted
committed_once =
    by_fields _ IsCommitted
    (fields IsWcc (λ (a : Committed). a.file) _ _ wcc_once
    (field (IsNumber w64) (λ (a : Committed). a.verifier) hyper_once))
    (λ v w r i. record { file = r.0 i; verifier = r.1 i })

pub made_once : EncodesOnce IsMade
made_once =
    by_fields _ IsMade
    (fields (IsOptional IsHandle) (λ (a : Made). a.file) _ _ post_op_handle_once
    (fields IsPostOpAttr (λ (a : Made). a.attributes) _ _ attributes_once
    (field IsWcc (λ (a : Made). a.dir) wcc_once)))
    (λ v w r i. record { file = r.0 i; attributes = r.1.0 i; dir = r.1.1 i })

pub renamed_once : EncodesOnce IsRenamed
renamed_once =
    by_fields _ IsRenamed
    (fields IsWcc (λ (a : Renamed). a.from) _ _ wcc_once
    (field IsWcc (λ (a : Renamed). a.to) wcc_once))
    (λ v w r i. record { from = r.0 i; to = r.1 i })

pub linked_once : EncodesOnce IsLinked
linked_once =
    by_fields _ IsLinked
    (fields IsPostOpAttr (λ (a : Linked). a.attributes) _ _ attributes_once
    (field IsWcc (λ (a : Linked). a.dir) wcc_once))
    (λ v w r i. record { attributes = r.0 i; dir = r.1 i })

pub space_once : EncodesOnce IsSpace
space_once =
    by_fields _ IsSpace
    (fields (IsNumber w64) (λ (a : Space). a.total) _ _ hyper_once
    (fields (IsNumber w64) (λ (a : Space). a.free) _ _ hyper_once
    (field (IsNumber w64) (λ (a : Space). a.available) hyper_once)))
    (λ v w r i. record { total = r.0 i; free = r.1.0 i; available = r.1.1 i })

pub room_once : EncodesOnce IsRoom
room_once =
    by_fields _ IsRoom
    (fields IsPostOpAttr (λ (a : VolumeSpace). a.attributes) _ _ attributes_once
    (fields IsSpace (λ (a : VolumeSpace). a.bytes) _ _ space_once
    (fields IsSpace (λ (a : VolumeSpace). a.files) _ _ space_once
    (field (IsNumber w32) (λ (a : VolumeSpace). a.invarsec) word_once))))
    (λ v w r i. record { attributes = r.0 i; bytes = r.1.0 i; files = r.1.1.0 i; invarsec = r.1.1.1 i })

pub transfer_once : EncodesOnce IsTransfer
transfer_once =
    by_fields _ IsTransfer
    (fields (IsNumber w32) (λ (a : Transfer). a.max) _ _ word_once
    (fields (IsNumber w32) (λ (a : Transfer). a.preferred) _ _ word_once
    (field (IsNumber w32) (λ (a : Transfer). a.multiple) word_once)))
    (λ v w r i. record { max = r.0 i; preferred = r.1.0 i; multiple = r.1.1 i })

pub server_limits_once : EncodesOnce IsServerLimits
server_limits_once =
    by_fields _ IsServerLimits
    (fields IsPostOpAttr (λ (a : ServerLimits). a.attributes) _ _ attributes_once
    (fields IsTransfer (λ (a : ServerLimits). a.read) _ _ transfer_once
    (fields IsTransfer (λ (a : ServerLimits). a.write) _ _ transfer_once
    (fields (IsNumber w32) (λ (a : ServerLimits). a.readdir) _ _ word_once
    (fields (IsNumber w64) (λ (a : ServerLimits). a.max_file_size) _ _ hyper_once
    (fields IsMoment (λ (a : ServerLimits). a.time_delta) _ _ moment_once
    (field (IsNumber w32) (λ (a : ServerLimits). a.properties) word_once)))))))
    (λ v w r i. record { attributes = r.0 i; read = r.1.0 i; write = r.1.1.0 i; readdir = r.1.1.1.0 i; max_file_size = r.1.1.1.1.0 i; time_delta = r.1.1.1.1.1.0 i; properties = r.1.1.1.1.1.1 i })

pub path_limits_once : EncodesOnce IsPathLimits
path_limits_once =
    by_fields _ IsPathLimits
    (fields IsPostOpAttr (λ (a : PathLimits). a.attributes) _ _ attributes_once
    (fields (IsNumber w32) (λ (a : PathLimits). a.linkmax) _ _ word_once
    (fields (IsNumber w32) (λ (a : PathLimits). a.name_max) _ _ word_once
    (fields IsBoolean (λ (a : PathLimits). a.no_trunc) _ _ boolean_once
    (fields IsBoolean (λ (a : PathLimits). a.chown_restricted) _ _ boolean_once
    (fields IsBoolean (λ (a : PathLimits). a.case_insensitive) _ _ boolean_once
    (field IsBoolean (λ (a : PathLimits). a.case_preserving) boolean_once)))))))
    (λ v w r i. record { attributes = r.0 i; linkmax = r.1.0 i; name_max = r.1.1.0 i; no_trunc = r.1.1.1.0 i; chown_restricted = r.1.1.1.1.0 i; case_insensitive = r.1.1.1.1.1.0 i; case_preserving = r.1.1.1.1.1.1 i })

-- the count of bytes that were read is their number
pub read_data_once : EncodesOnce IsReadData
read_data_once =
    by_fields _ IsReadData
    (fields IsPostOpAttr (λ (a : ReadData). a.attributes) _ _ attributes_once
    (fields (IsNumber w32) (λ (a : ReadData). length a.content) _ _ word_once
    (fields IsBoolean (λ (a : ReadData). a.eof) _ _ boolean_once
    (field IsString (λ (a : ReadData). a.content) string_once))))
    (λ v w r i. record { attributes = r.0 i; eof = r.1.1.0 i; content = r.1.1.1 i })

-- ---- a status, and the arm that it has

pub empty_once : EncodesOnce IsEmpty
empty_once v w a b x y p q e = (refl, p.text_is ∙ sym q.text_is)

failed_once : {B : Type 0} (T : B → List ℕ → Type 0) → EncodesOnce T → EncodesOnce (IsFailed T)
failed_once {B} T shown v w a b x y p q e =
    let both = fields (IsNumber w32) (λ (f : Failed B). f.status) _ _ word_once (field T (λ (f : Failed B). f.shown) shown) v w a b x y p.encoded q.encoded e in
    (λ i. record { status = both.0.0 i; shown = both.0.1 i }, both.1)

-- a status of success at the front, and one of failure
no_status : {A B : Type 0} (S : A → List ℕ → Type 0) (T : B → List ℕ → Type 0) (value : A) (failed : Failed B) (a b x y : List ℕ) → (IsNumber w32 0 ⨾ S value) a → IsFailed T failed b → a ++ x ≡ b ++ y → ⊥
no_status S T value failed a b x y p q e =
    let status = word_once 0 failed.status p.front q.encoded.front (p.back ++ x) (q.encoded.back ++ y) p.first q.encoded.first
    (sym (append_assoc p.front p.back x) ∙ ap (λ t. t ++ x) (sym p.text_is) ∙ e ∙ ap (λ t. t ++ y) q.encoded.text_is ∙ append_assoc q.encoded.front q.encoded.back y) in
    omega (arith, status.0, q.status)

pub result_once : {A B : Type 0} (S : A → List ℕ → Type 0) (T : B → List ℕ → Type 0) → EncodesOnce S → EncodesOnce T → EncodesOnce (IsResult S T)
result_once S T one shown (Ok v) (Ok w) a b x y p q e =
    let both = fields (IsNumber w32) (λ _. 0) (λ v w. v ≡ w) S word_once one v w a b x y p q e in
    (ap Ok both.0.1, both.1)
result_once S T one shown (Ok v) (Err w) a b x y p q e = absurd (no_status S T v w a b x y p q e)
result_once S T one shown (Err v) (Ok w) a b x y p q e = absurd (no_status S T w v b a y x q p (sym e))
result_once S T one shown (Err v) (Err w) a b x y p q e =
    let both = failed_once T shown v w a b x y p q e in
    (ap Err both.0, both.1)

pub arm_once : {A B : Type 0} (made : A → B) (S : A → List ℕ → Type 0) → EncodesOnce S → EncodesOnce (Arm made S)
arm_once made S one v w a b x y p q e =
    let both = one p.0 q.0 a b x y p.2 q.2 e in
    (sym p.1 ∙ ap made both.0 ∙ q.1, both.1)

pub bare_once : {A : Type 0} (made : A) → EncodesOnce (IsBare made)
bare_once made v w a b x y p q e = (sym p.value_is ∙ q.value_is, p.text_is ∙ sym q.text_is)
