-- What is read of the example, before and after changes, by computation.
use Rattle.std.proofs.Common.{refl}
use Rattle.nfs_inodes.specs.Example.{ReadsOfE, ReadsOfChangedE}

reads_of_changed_e : ReadsOfChangedE
reads_of_changed_e = record { unlinked_name = refl; unlinked_file = refl; unlinked_totals = refl; unlinked_cookie = refl; unlinked_directory = refl; unlinked_link = refl; unlinked_nothing = refl; moved_from = refl; moved_to = refl; moved_parent = refl; moved_links_from = refl; moved_links_to = refl; moved_links = refl; moved_totals = refl; replaced_by = refl; replaced_name = refl; replaced_file = refl; replaced_totals = refl; renamed_to_itself = refl; renamed_to_link = refl }

pub reads_of_e : ReadsOfE
reads_of_e = record { totals_a = refl; totals_b = refl; totals_none = refl; attributes_1 = refl; attributes_2 = refl; attributes_3 = refl; attributes_4 = refl; attributes_5 = refl; attributes_6 = refl; attributes_7 = refl; attributes_8 = refl; attributes_none = refl; found_x = refl; found_none = refl; found_dot = refl; found_parent = refl; found_root = refl; found_in_file = refl; first_entry = refl; second_entry = refl; third_entry = refl; last_entry = refl; no_entry = refl; next_cookie = refl; bytes = refl; no_path = refl; no_verifier = refl; named_b = refl; named_none = refl; changed = reads_of_changed_e }
