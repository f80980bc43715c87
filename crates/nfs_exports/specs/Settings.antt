-- What a text of options says: what its words say together, or the first fault.
use Rattle.std.specs.Prelude.{ℕ, Bool, true, false, not, List, [], ◌∷◌, Option, Some, None, Result, Ok, Err, if◌then◌else◌, nat_eq}
use Rattle.std.specs.Option.{unwrap_or}
use Rattle.nfs_text.specs.Chunks.{chunks}
use Rattle.nfs_exports.specs.Words.{◌>>=◌, setting_of}
use Rattle.nfs_exports.specs.declared.options.Options.{Options}
use Rattle.nfs_exports.specs.declared.options.Squash.{Squash}
use Rattle.nfs_exports.specs.declared.options.Squash.TheVariants.{No, Root, All}
use Rattle.nfs_exports.specs.declared.options.OptionsFault.{OptionsFault}
use Rattle.nfs_exports.specs.declared.options.OptionsFault.TheVariants.{Contradiction}
use Rattle.nfs_exports.specs.declared.setting.Setting.{Setting}
use Rattle.nfs_exports.specs.declared.setting.Setting.TheVariants.{ReadOnly, RootSquash, AllSquash, AnonUid, AnonGid, Nothing}
use Rattle.nfs_exports.specs.declared.settings.Settings.{Settings}

-- before the first word
abbrev pub nothing : Settings
nothing = record { read_only = None; root_squash = None; all_squash = None; anonuid = None; anongid = None }

abbrev pub same_flag : Bool → Bool → Bool
same_flag true b = b
same_flag false b = not b

-- what a word says, where no earlier one says otherwise
abbrev pub agreed : {A : Type 0} → (A → A → Bool) → Option A → A → Result A OptionsFault
agreed same None said = Ok said
agreed same (Some earlier) said = if same earlier said then Ok said else Err Contradiction

-- with what one word more says
abbrev pub with_setting : Settings → Setting → Result Settings OptionsFault
with_setting settings (ReadOnly said) = do
  agreed_on ← agreed same_flag settings.read_only said
  Ok (record settings { read_only = Some agreed_on })
with_setting settings (RootSquash said) = do
  agreed_on ← agreed same_flag settings.root_squash said
  Ok (record settings { root_squash = Some agreed_on })
with_setting settings (AllSquash said) = do
  agreed_on ← agreed same_flag settings.all_squash said
  Ok (record settings { all_squash = Some agreed_on })
with_setting settings (AnonUid id) = do
  agreed_on ← agreed nat_eq settings.anonuid id
  Ok (record settings { anonuid = Some agreed_on })
with_setting settings (AnonGid id) = do
  agreed_on ← agreed nat_eq settings.anongid id
  Ok (record settings { anongid = Some agreed_on })
with_setting settings Nothing = Ok settings

-- word by word, from left to right
abbrev pub with_words : Settings → List (List ℕ) → Result Settings OptionsFault
with_words settings [] = Ok settings
with_words settings (word ∷ words) = do
  setting ← setting_of word
  more ← with_setting settings setting
  with_words more words

-- `all_squash` wins over `root_squash`
abbrev pub squash_of : Option Bool → Option Bool → Squash
squash_of root all = if unwrap_or all false then All else (if unwrap_or root true then Root else No)

-- what holds where nothing is said: `ro`, `root_squash`, and the ids of nobody
abbrev pub options_of : Settings → Options
options_of settings = record {
  read_only = unwrap_or settings.read_only true;
  squash = squash_of settings.root_squash settings.all_squash;
  anonuid = unwrap_or settings.anonuid 65534;
  anongid = unwrap_or settings.anongid 65534;
}

-- the words of a text have a comma between each two
abbrev pub parse_options : List ℕ → Result Options OptionsFault
parse_options text = do
  settings ← with_words nothing (chunks 44 text)
  Ok (options_of settings)
