-- What is written for a request encodes its arguments.
use Rattle.std.proofs.Common.{◌≡◌, ℕ, ◌^◌, ◌<◌, ◌≤◌, List, [], ◌++◌, length, Option, Some, None, refl, sym, subst, append_assoc, append-nil, arith}
use Rattle.std.specs.Int.{w32, w64, to_be_bytes}
use Rattle.nfs_xdr.specs.Encoding.{IsNumber, IsOptional, opaque_text, optional_text}
use Rattle.nfs_xdr.proofs.Items.{opaque_written}
use Rattle.nfs_xdr.proofs.Writing.{number_written, followed}
use Rattle.nfs_attrs.specs.declared.sattr.Sattr.{Sattr}
use Rattle.nfs_attrs.specs.declared.time_setting.TimeSetting.{TimeSetting}
use Rattle.nfs_attrs.specs.declared.time_setting.TimeSetting.TheVariants.{Leave, ServerTime, ClientTime}
use Rattle.nfs_attrs.specs.Encoding.{IsTimeSetting, IsSattr, time_setting_text, sattr_text}
use Rattle.nfs_attrs.specs.declared.file_type.FileType.TheVariants.{Fifo}
use Rattle.nfs_args.specs.Encoding.{IsHandle, IsString, IsVerifier, IsDirOp, IsArgsOf, Unchecked}
use Rattle.nfs_client.specs.declared.file_request.FileRequest.{FileRequest}
use Rattle.nfs_client.specs.declared.file_request.FileRequest.TheVariants as of_file
use Rattle.nfs_client.specs.declared.name_request.NameRequest.{NameRequest}
use Rattle.nfs_client.specs.declared.name_request.NameRequest.TheVariants as of_name
use Rattle.nfs_client.specs.Requests.{file_procedure, file_args, file_text, name_procedure, name_args, name_text, named_in, dir_op_text, no_verifier, nothing, nothing_text}
use Rattle.nfs_client.specs.ReadBack.{IsWord, IsHyper, IfGiven, TimeFits, SattrFits, FileFits, NameFits}

-- ---- items

word : (n : ℕ) → n < 2 ^ 32 → IsNumber w32 n (to_be_bytes w32 n)
word n fits = number_written w32 n fits

hyper : (n : ℕ) → n < 2 ^ 64 → IsNumber w64 n (to_be_bytes w64 n)
hyper n fits = number_written w64 n fits

handle : (item : List ℕ) → length item ≤ 64 → IsHandle item (opaque_text item)
handle item bound = opaque_written 64 item (omega (arith, bound)) bound

string : (item : List ℕ) → length item < 2 ^ 32 → IsString item (opaque_text item)
string item bound = opaque_written 4294967295 item bound (omega (arith, bound))

verifier : IsVerifier no_verifier no_verifier
verifier = record { len_is = refl; pad = []; pad_len = refl; text_is = refl }

dir_op : (dir name : List ℕ) → length dir ≤ 64 → length name < 2 ^ 32 → IsDirOp (named_in dir name) (dir_op_text dir name)
dir_op dir name d n = followed _ _ _ _ (handle dir d) (string name n)

optional_word : (o : Option ℕ) → IfGiven IsWord o → IsOptional (IsNumber w32) o (optional_text (to_be_bytes w32) o)
optional_word None fits = word 0 (omega arith)
optional_word (Some n) fits = followed _ _ _ _ (word 1 (omega arith)) (word n fits)

optional_hyper : (o : Option ℕ) → IfGiven IsHyper o → IsOptional (IsNumber w64) o (optional_text (to_be_bytes w64) o)
optional_hyper None fits = word 0 (omega arith)
optional_hyper (Some n) fits = followed _ _ _ _ (word 1 (omega arith)) (hyper n fits)

time_setting : (t : TimeSetting) → TimeFits t → IsTimeSetting t (time_setting_text t)
time_setting Leave fits = word 0 (omega arith)
time_setting ServerTime fits = word 1 (omega arith)
time_setting (ClientTime m) fits = followed _ _ _ _ (word 2 (omega arith)) (followed _ _ _ _ (word m.seconds fits.0) (word m.nanos fits.1))

regrouped : (a b c d e f : List ℕ) → a ++ (b ++ (c ++ (d ++ (e ++ f)))) ≡ a ++ b ++ c ++ d ++ e ++ f
regrouped a b c d e f = simp append_assoc

sattr : (s : Sattr) → SattrFits s → IsSattr s (sattr_text s)
sattr s fits = subst (IsSattr s) (regrouped (optional_text (to_be_bytes w32) s.mode) (optional_text (to_be_bytes w32) s.uid) (optional_text (to_be_bytes w32) s.gid)
    (optional_text (to_be_bytes w64) s.size) (time_setting_text s.atime) (time_setting_text s.mtime))
    (followed _ _ _ _ (optional_word s.mode fits.mode)
    (followed _ _ _ _ (optional_word s.uid fits.uid)
    (followed _ _ _ _ (optional_word s.gid fits.gid)
    (followed _ _ _ _ (optional_hyper s.size fits.size)
    (followed _ _ _ _ (time_setting s.atime fits.atime) (time_setting s.mtime fits.mtime))))))

no_attributes : IsSattr nothing nothing_text
no_attributes = sattr nothing (record { mode = tt; uid = tt; gid = tt; size = tt; atime = tt; mtime = tt })

-- with nothing after it
alone : {A : Type 0} (Encodes : A → List ℕ → Type 0) (value : A) (text : List ℕ) → Encodes value text → Encodes value (text ++ [])
alone Encodes value text encoded = subst (Encodes value) (sym (append-nil text)) encoded

-- ---- of a file

pub file_encoded : (r : FileRequest) (file content : List ℕ) → FileFits r → length file ≤ 64 → length content < 2 ^ 32
    → IsArgsOf (file_procedure r) (file_args r file content) (file_text r file content)
file_encoded of_file.Stat file content fits f c = (_, refl, alone IsHandle file _ (handle file f))
file_encoded (of_file.Set attributes) file content fits f c = (_, refl, followed _ _ _ _ (handle file f) (followed _ _ _ _ (sattr attributes fits) (word 0 (omega arith))))
file_encoded of_file.Access file content fits f c = (_, refl, followed _ _ _ _ (handle file f) (word 63 (omega arith)))
file_encoded of_file.Readlink file content fits f c = (_, refl, alone IsHandle file _ (handle file f))
file_encoded (of_file.Read offset count) file content fits f c = (_, refl, followed _ _ _ _ (handle file f) (followed _ _ _ _ (hyper offset fits.0) (word count fits.1)))
file_encoded (of_file.Write offset digits) file content fits f c = (
  _,
  refl,
  followed _ _ _ _ (handle file f)
      (followed _ _ _ _ (hyper offset fits) (followed _ _ _ _ (word (length content) c) (followed _ _ _ _ (word 0 (omega arith)) (string content c)))),
)
file_encoded (of_file.List cookie) file content fits f c = (
  _,
  refl,
  followed _ _ _ _ (handle file f)
      (followed _ _ _ _ (hyper cookie fits) (followed _ _ _ _ verifier (word 4096 (omega arith)))),
)
file_encoded (of_file.ListPlus cookie) file content fits f c = (
  _,
  refl,
  followed _ _ _ _ (handle file f)
      (followed _ _ _ _ (hyper cookie fits) (followed _ _ _ _ verifier (followed _ _ _ _ (word 4096 (omega arith)) (word 4096 (omega arith))))),
)
file_encoded of_file.Room file content fits f c = (_, refl, alone IsHandle file _ (handle file f))
file_encoded of_file.Limits file content fits f c = (_, refl, alone IsHandle file _ (handle file f))
file_encoded of_file.PathLimits file content fits f c = (_, refl, alone IsHandle file _ (handle file f))
file_encoded of_file.Commit file content fits f c = (_, refl, followed _ _ _ _ (handle file f) (followed _ _ _ _ (hyper 0 (omega arith)) (word 0 (omega arith))))

-- ---- of a name

pub name_encoded : (r : NameRequest) (dir name : List ℕ) → NameFits r → length dir ≤ 64 → length name < 2 ^ 32
    → IsArgsOf (name_procedure r) (name_args r dir name) (name_text r dir name)
name_encoded of_name.Lookup dir name fits d n = (_, refl, alone IsDirOp (named_in dir name) _ (dir_op dir name d n))
name_encoded (of_name.Create attributes) dir name fits d n =
    (_, refl, followed _ _ _ _ (dir_op dir name d n) (record { kind = Unchecked; encoded = followed _ _ _ _ (word 0 (omega arith)) (_, refl, sattr attributes fits) }))
name_encoded (of_name.Mkdir attributes) dir name fits d n = (_, refl, followed _ _ _ _ (dir_op dir name d n) (sattr attributes fits))
name_encoded (of_name.Symlink path) dir name fits d n = (_, refl, followed _ _ _ _ (dir_op dir name d n) (followed _ _ _ _ no_attributes (string path.now fits)))
name_encoded of_name.Mknod dir name fits d n =
    (_, refl, followed _ _ _ _ (dir_op dir name d n) (record { kind = Fifo; encoded = followed _ _ _ _ (word 7 (omega arith)) (_, refl, no_attributes) }))
name_encoded of_name.Remove dir name fits d n = (_, refl, alone IsDirOp (named_in dir name) _ (dir_op dir name d n))
name_encoded of_name.Rmdir dir name fits d n = (_, refl, alone IsDirOp (named_in dir name) _ (dir_op dir name d n))
