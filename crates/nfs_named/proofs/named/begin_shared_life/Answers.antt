use Rattle.std.proofs.Common.{[], ap, ◌∙◌}
use Rattle.nfs_named.specs.Lives.{key_of, life_lines}
use Rattle.nfs_named.proofs.named.begin_shared_life.Goals as goal

pub returns : goal.returns
returns g c =
    let shared = c.in_ok-shared.shared in
    let made = c.in_ok-shared.ensures in
    let head = shared.head.items in
    (head, made.0, c.finish-key.ensures (life_lines head made.0) (made.1 [] c.new-digest.ensures) ∙ ap (λ key. key_of key head made.0) c.key.ensures)
