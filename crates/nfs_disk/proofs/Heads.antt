-- The first lines of a description, and the limits of volume after volume.
use Rattle.std.proofs.Common.{◌≡◌, ℕ, List, [], ◌∷◌, ◌++◌, refl, sym, ap, ◌∙◌, append-nil, arith}
use Rattle.std.specs.List.{flat_map}
use Rattle.nfs_describe.specs.Lines.{limits_line, server_line}
use Rattle.nfs_inodes.specs.Limits.{default_limits}
use Rattle.nfs_inodes.specs.declared.limits.Limits.{Limits}
use Rattle.nfs_disk.specs.Heads.{head_text, limits_in, limits_of, volume_text}
use Rattle.nfs_disk.specs.Needs.{larger}
use Rattle.nfs_disk.specs.declared.head.Volume.{Volume}

-- the larger of each, one limit after another
limits_are : (limits : Limits) (size links path files : ℕ) → limits.file_size ≡ size → limits.links ≡ links → limits.link_path ≡ path → limits.files ≡ files
    → limits ≡ record { file_size = size; links = links; link_path = path; files = files }
limits_are limits size links path files s l p f =
    ap (λ (n : ℕ). record { file_size = n; links = limits.links; link_path = limits.link_path; files = limits.files }) s
    ∙ ap (λ (n : ℕ). record { file_size = size; links = n; link_path = limits.link_path; files = limits.files }) l
    ∙ ap (λ (n : ℕ). record { file_size = size; links = links; link_path = n; files = limits.files }) p
    ∙ ap (λ (n : ℕ). record { file_size = size; links = links; link_path = path; files = n }) f

-- which is by each limit
of_three : (a b c : Limits) → larger (larger a b) c ≡ larger a (larger b c)
of_three a b c = limits_are (larger (larger a b) c) _ _ _ _ (omega arith) (omega arith) (omega arith) (omega arith)

turned : (a b : Limits) → larger a b ≡ larger b a
turned a b = limits_are (larger a b) _ _ _ _ (omega arith) (omega arith) (omega arith) (omega arith)

-- what is at least the default stays so
pub stays : (limits one : Limits) → larger limits default_limits ≡ limits → larger (larger limits one) default_limits ≡ larger limits one
stays limits one so =
    of_three limits one default_limits ∙ ap (larger limits) (turned one default_limits) ∙ sym (of_three limits default_limits one) ∙ ap (λ l. larger l one) so

-- all have at least the default
pub from_default : (volumes : List Volume) → larger default_limits (limits_of volumes) ≡ limits_of volumes
from_default [] = refl
from_default (volume ∷ others) =
    turned default_limits (limits_of (volume ∷ others))
    ∙ of_three (limits_in volume) (limits_of others) default_limits
    ∙ ap (larger (limits_in volume)) (turned (limits_of others) default_limits ∙ from_default others)

-- one volume more
pub one_more : (limits new : Limits) (left rest : List Volume) (volume : Volume) (all : Limits) → larger limits (limits_of left) ≡ all → left ≡ volume ∷ rest
    → new ≡ larger limits (limits_in volume) → larger new (limits_of rest) ≡ all
one_more limits new left rest volume all so next is =
    ap (λ l. larger l (limits_of rest)) is ∙ of_three limits (limits_in volume) (limits_of rest)
    ∙ ap (λ l. larger limits (limits_of l)) (sym next) ∙ so

-- none is left
pub no_more : (limits : Limits) (left : List Volume) (all : Limits) → larger limits (limits_of left) ≡ all → larger limits default_limits ≡ limits → left ≡ [] → limits ≡ all
no_more limits left all so most none = sym most ∙ ap (λ l. larger limits (limits_of l)) (sym none) ∙ so

no_names : (key line : List ℕ) → [] ++ (key ++ line ++ []) ≡ key ++ line
no_names key line = append-nil (key ++ line)

-- the lines one after another
pub head_is : (key : List ℕ) (limits : Limits) (volumes : List Volume) (start first text : List ℕ) → start ≡ [] → first ≡ start ++ (server_line key ++ limits_line limits ++ [])
    → limits ≡ limits_of volumes → text ≡ first ++ flat_map volume_text volumes → text ≡ head_text key volumes
head_is key limits volumes start first text empty begins needs ends =
    let head : first ≡ server_line key ++ limits_line limits =
    begins ∙ ap (λ t. t ++ (server_line key ++ limits_line limits ++ [])) empty ∙ no_names (server_line key) (limits_line limits) in
    ends ∙ ap (λ t. t ++ flat_map volume_text volumes) head ∙ ap (λ l. (server_line key ++ limits_line l) ++ flat_map volume_text volumes) needs
