-- The faults of connections and streams: the word that each is printed by.
use Rattle.std.specs.Prelude.{ℕ, List, codes}
use Rattle.nfs_server.specs.declared.session_fault.SessionFault.{SessionFault}
use Rattle.nfs_server.specs.declared.session_fault.SessionFault.TheVariants as session
use Rattle.nfs_server.specs.declared.serve_fault.ServeFault.{ServeFault}
use Rattle.nfs_server.specs.declared.serve_fault.ServeFault.TheVariants as stream

abbrev pub word_of_session : SessionFault → List ℕ
word_of_session session.ConnectionTaken = codes "ConnectionTaken"
word_of_session session.UnknownConnection = codes "UnknownConnection"
word_of_session session.Ended = codes "Ended"
word_of_session session.TooLong = codes "TooLong"
word_of_session session.Memory = codes "Memory"
word_of_session session.AuditFault = codes "AuditFault"
word_of_session session.WriteFault = codes "WriteFault"

abbrev pub word_of_stream : ServeFault → List ℕ
word_of_stream stream.ReadFault = codes "ReadFault"
word_of_stream stream.WriteFault = codes "WriteFault"
word_of_stream stream.AuditFault = codes "AuditFault"
word_of_stream stream.TooLong = codes "TooLong"
word_of_stream stream.TurnsSpent = codes "TurnsSpent"
word_of_stream stream.Memory = codes "Memory"
