-- How much room arguments take.
use Rattle.std.proofs.Common.{ℕ, ◌+◌, ◌≤◌, List, length, Option, Some, None, arith, length-append}
use Rattle.std.proofs.lemmas.Grind.{common_steps}
use Rattle.std.specs.Int.{w32, w64, to_be_bytes}
use Rattle.nfs_xdr.specs.Encoding.{opaque_text, optional_text}
use Rattle.nfs_attrs.specs.declared.sattr.Sattr.{Sattr}
use Rattle.nfs_attrs.specs.declared.time_setting.TimeSetting.{TimeSetting}
use Rattle.nfs_attrs.specs.declared.time_setting.TimeSetting.TheVariants.{Leave, ServerTime, ClientTime}
use Rattle.nfs_attrs.specs.Encoding.{sattr_text, time_setting_text}
use Rattle.nfs_client.specs.declared.file_request.FileRequest.{FileRequest}
use Rattle.nfs_client.specs.declared.file_request.FileRequest.TheVariants as of_file
use Rattle.nfs_client.specs.declared.name_request.NameRequest.{NameRequest}
use Rattle.nfs_client.specs.declared.name_request.NameRequest.TheVariants as of_name
use Rattle.nfs_client.specs.Requests.{dir_op_text, file_text, file_rest, name_rest, name_text, nothing_text, target_of}

pub word_room : (o : Option ℕ) → length (optional_text (to_be_bytes w32) o) ≤ 8
word_room None = omega arith
word_room (Some n) = omega arith

pub hyper_room : (o : Option ℕ) → length (optional_text (to_be_bytes w64) o) ≤ 12
hyper_room None = omega arith
hyper_room (Some n) = omega arith

pub time_room : (t : TimeSetting) → length (time_setting_text t) ≤ 12
time_room Leave = omega arith
time_room ServerTime = omega arith
time_room (ClientTime m) = omega arith

pub sattr_room : (s : Sattr) → length (sattr_text s) ≤ 60
sattr_room s = grind (arith, length-append, word_room, hyper_room, time_room)

pub opaque_room : (item : List ℕ) → length (opaque_text item) ≤ length item + 7
opaque_room item = grind (arith, common_steps)

pub rest_room : (r : FileRequest) (content : List ℕ) → length (file_rest r content) ≤ 64 + length content
rest_room of_file.Stat content = omega arith
rest_room (of_file.Set attributes) content = omega (arith, length-append (sattr_text attributes) (to_be_bytes w32 0), sattr_room attributes)
rest_room of_file.Access content = omega arith
rest_room of_file.Readlink content = omega arith
rest_room (of_file.Read offset count) content = omega arith
rest_room (of_file.Write offset digits) content = omega (arith, opaque_room content)
rest_room (of_file.List cookie) content = omega arith
rest_room (of_file.ListPlus cookie) content = omega arith
rest_room of_file.Room content = omega arith
rest_room of_file.Limits content = omega arith
rest_room of_file.PathLimits content = omega arith
rest_room of_file.Commit content = omega arith

-- after a handle
pub file_room : (r : FileRequest) (file content : List ℕ) → length file ≤ 64 → length (file_text r file content) ≤ 140 + length content
file_room r file content sized = omega (arith, sized, length-append (opaque_text file) (file_rest r content), opaque_room file, rest_room r content)

name_rest_room : (r : NameRequest) → length (name_rest r) ≤ 64 + length (target_of r)
name_rest_room of_name.Lookup = omega arith
name_rest_room (of_name.Create attributes) = omega (arith, sattr_room attributes)
name_rest_room (of_name.Mkdir attributes) = omega (arith, sattr_room attributes)
name_rest_room (of_name.Symlink path) = omega (arith, length-append nothing_text (opaque_text path.now), opaque_room path.now)
name_rest_room of_name.Mknod = omega arith
name_rest_room of_name.Remove = omega arith
name_rest_room of_name.Rmdir = omega arith

-- after a name in a directory
pub name_room : (r : NameRequest) (dir name : List ℕ) → length dir ≤ 64 → length (name_text r dir name) ≤ 142 + length name + length (target_of r)
name_room r dir name sized =
    omega (arith, sized, length-append (dir_op_text dir name) (name_rest r), length-append (opaque_text dir) (opaque_text name), opaque_room dir, opaque_room name, name_rest_room r)
