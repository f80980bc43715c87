-- What an `ask` asks for, and the record of its call.
use Rattle.std.specs.Prelude.{◌≡◌, ℕ, Bool, true, false, ◌&&◌, List, [], ◌∷◌, Option, Some, None, is_none, unwrap_or, Ok, Err, if◌then◌else◌}
use Rattle.nfs_xdr.specs.Reading.{◌>>=◌}
use Rattle.nfs_rpc.specs.AuthSys.{credential_of}
use Rattle.nfs_attrs.specs.declared.sattr.Sattr.{Sattr}
use Rattle.nfs_attrs.specs.declared.moment.Moment.{Moment}
use Rattle.nfs_attrs.specs.declared.time_setting.TimeSetting.{TimeSetting}
use Rattle.nfs_attrs.specs.declared.time_setting.TimeSetting.TheVariants.{ServerTime, ClientTime}
use Rattle.nfs_inodes.specs.Tree.{Tree}
use Rattle.nfs_client.specs.declared.file_request.FileRequest.{FileRequest}
use Rattle.nfs_client.specs.declared.file_request.FileRequest.TheVariants as of_file
use Rattle.nfs_client.specs.declared.name_request.NameRequest.{NameRequest}
use Rattle.nfs_client.specs.declared.name_request.NameRequest.TheVariants as of_name
use Rattle.nfs_client.specs.declared.request.Request.{Request}
use Rattle.nfs_client.specs.declared.request.Request.TheVariants as request
use Rattle.nfs_client.specs.Places.{file_at}
use Rattle.nfs_client.specs.Records.{record_in, has_long_part}
use Rattle.nfs_client.specs.Requests.{nothing}
use Rattle.nfs_ask.specs.declared.ask.Ask.{Ask}
use Rattle.nfs_ask.specs.declared.fault.AskFault.{AskFault}
use Rattle.nfs_ask.specs.declared.fault.AskFault.TheVariants as fault
use Rattle.nfs_ask.specs.declared.fault.Wanted.TheVariants as wanted
use Rattle.nfs_ask.specs.declared.operation.Operation.{Operation}
use Rattle.nfs_ask.specs.declared.operation.Operation.TheVariants as op
use Rattle.nfs_ask.specs.Operations.{operation_of}
use Rattle.nfs_ask.specs.Words.{Taken, word_at, number_at, long_number_at, mode_at, or_else, user_of, value_at, xid_at, end_at}

-- ---- what stands after a path

-- whole seconds, 0 where none are given
abbrev pub moment_at : List (List ℕ) → Taken Moment
moment_at words = do
  seconds ← or_else 0 number_at words
  Ok (record { seconds = seconds.0; nanos = 0 }, seconds.1)

-- what a new file is given: a mode, where one is given
abbrev pub mode_given_at : List (List ℕ) → Taken Sattr
mode_given_at words = do
  mode ← mode_at words
  Ok (record nothing { mode = Some mode.0 }, mode.1)

abbrev pub new_file_at : List (List ℕ) → Taken Sattr
new_file_at words = or_else nothing mode_given_at words

abbrev pub with_times : TimeSetting → Sattr
with_times time = record nothing { atime = time; mtime = time }

-- what a SETATTR sets
abbrev pub setting_at : Operation → List (List ℕ) → Taken Sattr
setting_at op.SetMode words = mode_given_at words
setting_at op.SetOwner words = do
  uid ← number_at words
  Ok (record nothing { uid = Some uid.0 }, uid.1)
setting_at op.SetGroup words = do
  gid ← number_at words
  Ok (record nothing { gid = Some gid.0 }, gid.1)
setting_at op.Truncate words = do
  size ← long_number_at words
  Ok (record nothing { size = Some size.0 }, size.1)
setting_at op.Touch words = Ok (with_times ServerTime, words)
setting_at op.SetTimes words = do
  moment ← moment_at words
  Ok (with_times (ClientTime moment.0), moment.1)
setting_at other words = Err wanted.Nothing

-- from which byte on, 0 where it isn't given, and how many, the most of a READ where that isn't
abbrev pub range_at : List (List ℕ) → Taken (ℕ × ℕ)
range_at words = do
  offset ← or_else 0 long_number_at words
  count ← or_else 131072 number_at offset.1
  Ok ((offset.0, count.0), count.1)

-- from which byte on, and the digits
abbrev pub write_at : List (List ℕ) → Taken (ℕ × List ℕ)
write_at words = do
  offset ← long_number_at words
  digits ← word_at wanted.Bytes offset.1
  Ok ((offset.0, digits.0), digits.1)

abbrev pub cookie_at : List (List ℕ) → Taken ℕ
cookie_at words = or_else 0 long_number_at words

-- ---- by the operation: with these words after its path it asks for this, and these are left

abbrev pub AsksOfFile : Operation → List (List ℕ) → FileRequest → List (List ℕ) → Type 0
AsksOfFile operation words of_file.Stat left = (operation ≡ op.Stat) × (left ≡ words)
AsksOfFile operation words (of_file.Set attributes) left = setting_at operation words ≡ Ok (attributes, left)
AsksOfFile operation words of_file.Access left = (operation ≡ op.Access) × (left ≡ words)
AsksOfFile operation words of_file.Readlink left = (operation ≡ op.Readlink) × (left ≡ words)
AsksOfFile operation words (of_file.Read offset count) left = (operation ≡ op.Read) × (range_at words ≡ Ok ((offset, count), left))
AsksOfFile operation words (of_file.Write offset digits) left = (operation ≡ op.Write) × (write_at words ≡ Ok ((offset, digits.now), left))
AsksOfFile operation words (of_file.List cookie) left = (operation ≡ op.List) × (cookie_at words ≡ Ok (cookie, left))
AsksOfFile operation words (of_file.ListPlus cookie) left = (operation ≡ op.ListPlus) × (cookie_at words ≡ Ok (cookie, left))
AsksOfFile operation words of_file.Room left = (operation ≡ op.Room) × (left ≡ words)
AsksOfFile operation words of_file.Limits left = (operation ≡ op.Limits) × (left ≡ words)
AsksOfFile operation words of_file.PathLimits left = (operation ≡ op.PathLimits) × (left ≡ words)
AsksOfFile operation words of_file.Commit left = (operation ≡ op.Commit) × (left ≡ words)

abbrev pub AsksOfName : Operation → List (List ℕ) → NameRequest → List (List ℕ) → Type 0
AsksOfName operation words of_name.Lookup left = (operation ≡ op.Lookup) × (left ≡ words)
AsksOfName operation words (of_name.Create attributes) left = (operation ≡ op.Create) × (new_file_at words ≡ Ok (attributes, left))
AsksOfName operation words (of_name.Mkdir attributes) left = (operation ≡ op.Mkdir) × (new_file_at words ≡ Ok (attributes, left))
AsksOfName operation words (of_name.Symlink path) left = (operation ≡ op.Symlink) × (word_at wanted.Target words ≡ Ok (path.now, left))
AsksOfName operation words of_name.Mknod left = (operation ≡ op.Mknod) × (left ≡ words)
AsksOfName operation words of_name.Remove left = (operation ≡ op.Remove) × (left ≡ words)
AsksOfName operation words of_name.Rmdir left = (operation ≡ op.Rmdir) × (left ≡ words)

abbrev pub Asks : Operation → List (List ℕ) → Request → List (List ℕ) → Type 0
Asks operation words (request.File r) left = AsksOfFile operation words r left
Asks operation words (request.Name r) left = AsksOfName operation words r left
Asks operation words (request.Rename to) left = (operation ≡ op.Rename) × (word_at wanted.Path words ≡ Ok (to.now, left))
Asks operation words (request.Link name) left = (operation ≡ op.Link) × (word_at wanted.Path words ≡ Ok (name.now, left))
Asks operation words request.Mount left = (operation ≡ op.Mount) × (left ≡ words)
Asks operation words request.Unmount left = (operation ≡ op.Unmount) × (left ≡ words)

-- of a word that stands for an operation
abbrev pub AsksAs : Option Operation → List (List ℕ) → Request → Type 0
AsksAs None words r = ⊥
AsksAs (Some operation) words r = Asks operation words r []

-- who asks for what of which path
abbrev pub AsksFrom : List (List ℕ) → Ask → Type 0
AsksFrom [] ask = ⊥
AsksFrom (user ∷ []) ask = ⊥
AsksFrom (user ∷ operation ∷ []) ask = ⊥
AsksFrom (user ∷ operation ∷ path ∷ words) ask =
    (user_of user ≡ Some (credential_of ask.cred)) × (path ≡ ask.path.now) × AsksAs (operation_of operation) words ask.request

-- the same, after the number of the call where one is given
abbrev pub AsksBy : List (List ℕ) → Ask → Type 0
AsksBy words ask = (left : List (List ℕ)) × (xid_at words ≡ Ok (ask.xid, left)) × AsksFrom left ask

-- ---- what is wanted where the words ask for nothing

-- whatever they say
abbrev pub passed : {A : Type 0} → Taken A → Taken (Unit {0})
passed taken = do
  value ← taken
  Ok (tt, value.1)

-- the words after a path, by the operation
abbrev pub after_path : Operation → List (List ℕ) → Taken (Unit {0})
after_path op.SetMode words = passed (mode_at words)
after_path op.SetOwner words = passed (number_at words)
after_path op.SetGroup words = passed (number_at words)
after_path op.Truncate words = passed (long_number_at words)
after_path op.SetTimes words = passed (moment_at words)
after_path op.Read words = passed (range_at words)
after_path op.Write words = passed (write_at words)
after_path op.List words = passed (cookie_at words)
after_path op.ListPlus words = passed (cookie_at words)
after_path op.Create words = passed (new_file_at words)
after_path op.Mkdir words = passed (new_file_at words)
after_path op.Symlink words = passed (word_at wanted.Target words)
after_path op.Rename words = passed (word_at wanted.Path words)
after_path op.Link words = passed (word_at wanted.Path words)
after_path other words = Ok (tt, words)

-- all of them
abbrev pub passed_by : List (List ℕ) → Taken (Unit {0})
passed_by words = do
  xid ← xid_at words
  user ← value_at wanted.User user_of xid.1
  operation ← value_at wanted.Operation operation_of user.1
  path ← word_at wanted.Path operation.1
  after ← after_path operation.0 path.1
  end_at after.1

-- a fault reports what is wanted
abbrev pub IsWanted : Taken (Unit {0}) → AskFault → Type 0
IsWanted taken (fault.Word place wanted) = taken ≡ Err wanted
IsWanted taken fault.Memory = ⊥

-- ---- the record

-- whether a request is one of the file that its path names
abbrev pub needs_file : Request → Bool
needs_file (request.File r) = true
needs_file (request.Name r) = false
needs_file (request.Rename to) = false
needs_file (request.Link name) = true
needs_file request.Mount = false
needs_file request.Unmount = false

-- what is sent over a tree: the LOOKUP of a name stands for what is asked of a file that isn't there
abbrev pub sent_request : Tree → Ask → Request
sent_request t ask = if needs_file ask.request && is_none (file_at t ask.path.now) then request.Name of_name.Lookup else ask.request

-- by the number that the words give, or else by this one
abbrev pub record_of : Tree → Ask → ℕ → Option (List ℕ)
record_of t ask xid = record_in t (record { xid = unwrap_or ask.xid xid; cred = credential_of ask.cred }) ask.path.now (sent_request t ask)

abbrev pub has_long_word : Tree → Ask → Bool
has_long_word t ask = has_long_part t ask.path.now (sent_request t ask)
