-- Ways and places as they are in memory.
use Rattle.nfs_client.specs.declared.resolved_path.Way as kept_way
use Rattle.nfs_client.specs.declared.resolved_path.ResolvedPath as kept_place
use Rattle.nfs_client.specs.Places.{Way, ResolvedPath}

abbrev pub way_seen : kept_way.Way → Way
way_seen way = record { root = way.root.0; rest = way.rest.now }

abbrev pub place_seen : kept_place.ResolvedPath → ResolvedPath
place_seen place = record { dir = place.dir.0; name = place.name.now }
