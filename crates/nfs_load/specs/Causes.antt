-- The causes of a faulty line: the word that each is printed by.
use Rattle.std.specs.Prelude.{ℕ, List, codes}
use Rattle.nfs_load.specs.declared.cause.Cause.{Cause}
use Rattle.nfs_load.specs.declared.cause.Cause.TheVariants as cause

abbrev pub word_of : Cause → List ℕ
word_of cause.BadByte = codes "BadByte"
word_of cause.UnknownWord = codes "UnknownWord"
word_of cause.FieldCount = codes "FieldCount"
word_of cause.NoServer = codes "NoServer"
word_of cause.ServerTwice = codes "ServerTwice"
word_of cause.NoVolume = codes "NoVolume"
word_of cause.LimitsLate = codes "LimitsLate"
word_of cause.NamesLate = codes "NamesLate"
word_of cause.BadKey = codes "BadKey"
word_of cause.BadLimit = codes "BadLimit"
word_of cause.BadNames = codes "BadNames"
word_of cause.BadVolumePath = codes "BadVolumePath"
word_of cause.BadNumber = codes "BadNumber"
word_of cause.BadPattern = codes "BadPattern"
word_of cause.BadOptions = codes "BadOptions"
word_of cause.BadPath = codes "BadPath"
word_of cause.BadContent = codes "BadContent"
word_of cause.VolumeTwice = codes "VolumeTwice"
word_of cause.NoParent = codes "NoParent"
word_of cause.NameTaken = codes "NameTaken"
word_of cause.NoTarget = codes "NoTarget"
word_of cause.Full = codes "Full"
