-- Arguments that are read say how many bytes are to be written.
use Rattle.std.proofs.Common.{ℕ, ◌<◌, ◌^◌, List, length, subst}
use Rattle.nfs_args.specs.declared.args.NfsArgs.{NfsArgs}
use Rattle.nfs_args.specs.declared.procedure.Procedure.{Procedure}
use Rattle.nfs_args.specs.declared.procedure.Procedure.TheVariants as proc
use Rattle.nfs_args.specs.Encoding.{IsArgsOf, HasCountedBytes}

pub counted : (p : Procedure) (args : NfsArgs) (text : List ℕ) → IsArgsOf p args text → HasCountedBytes args
counted proc.Null args text e = subst HasCountedBytes e.value_is tt
counted proc.Getattr args text e = subst HasCountedBytes e.1 tt
counted proc.Setattr args text e = subst HasCountedBytes e.1 tt
counted proc.Lookup args text e = subst HasCountedBytes e.1 tt
counted proc.Access args text e = subst HasCountedBytes e.1 tt
counted proc.Readlink args text e = subst HasCountedBytes e.1 tt
counted proc.Read args text e = subst HasCountedBytes e.1 tt
counted proc.Write args text e = subst HasCountedBytes e.1 (let fits : length e.0.content < 2 ^ 32 = e.2.second.second.first.fits in fits)
counted proc.Create args text e = subst HasCountedBytes e.1 tt
counted proc.Mkdir args text e = subst HasCountedBytes e.1 tt
counted proc.Symlink args text e = subst HasCountedBytes e.1 tt
counted proc.Mknod args text e = subst HasCountedBytes e.1 tt
counted proc.Remove args text e = subst HasCountedBytes e.1 tt
counted proc.Rmdir args text e = subst HasCountedBytes e.1 tt
counted proc.Rename args text e = subst HasCountedBytes e.1 tt
counted proc.Link args text e = subst HasCountedBytes e.1 tt
counted proc.Readdir args text e = subst HasCountedBytes e.1 tt
counted proc.Readdirplus args text e = subst HasCountedBytes e.1 tt
counted proc.Fsstat args text e = subst HasCountedBytes e.1 tt
counted proc.Fsinfo args text e = subst HasCountedBytes e.1 tt
counted proc.Pathconf args text e = subst HasCountedBytes e.1 tt
counted proc.Commit args text e = subst HasCountedBytes e.1 tt
