-- Each constant of the code is the number of the definitions: a change of one alone is refused.
use Rattle.std.specs.Prelude.{◌≡◌, refl}
use Rattle.ds_base.specs.declared.limits.TheConstants.{MAX_PATH_LENGTH, MAX_ID, FIRST_DRAWN_ID, MAX_NAME_BYTES, MAX_NAMESPACE_BYTES}
use Rattle.ds_base.specs.declared.limits.TheConstants.{MAX_RATING, MAX_ENTITY_SIZE, MAX_TOLD_SIZE}
use Rattle.ds_base.specs.declared.limits.TheConstants.{MAX_INDEX_ROWS, MAX_DEFINITIONS, MAX_BRANCHES, MAX_RESULTS, MAX_WRITES}
use Rattle.ds_base.specs.declared.limits.TheConstants.{MAX_GROUPS, MAX_COMMITS, MAX_CLIENT}
use Rattle.ds_base.specs.declared.limits.TheConstants.{MAX_SHARDS, MAX_APPLIERS, MAX_WINDOW, MAX_LINE_BYTES, MAX_ROUND_LINES}
use Rattle.ds_base.specs.declared.limits.TheConstants.{MAX_ROUND_BYTES, MAX_INPUT_BYTES, MAX_FILE_BYTES}
use Rattle.ds_base.specs.Limits.{most_elements, greatest_id, first_drawn_id, most_name_bytes, most_namespace_bytes, greatest_rating}
use Rattle.ds_base.specs.Limits.{greatest_entity_size, greatest_told, most_index_rows, most_definitions, most_branches}
use Rattle.ds_base.specs.Limits.{most_results}
use Rattle.ds_base.specs.Limits.{most_writes, most_groups, most_commits, greatest_client, most_shards, most_appliers}
use Rattle.ds_base.specs.Limits.{greatest_window, most_line_bytes, most_round_lines, most_round_bytes, most_input_bytes}
use Rattle.ds_base.specs.Limits.{most_file_bytes}

pub same_most_elements : MAX_PATH_LENGTH ≡ most_elements
same_most_elements = refl

pub same_greatest_id : MAX_ID ≡ greatest_id
same_greatest_id = refl

pub same_first_drawn_id : FIRST_DRAWN_ID ≡ first_drawn_id
same_first_drawn_id = refl

pub same_most_name_bytes : MAX_NAME_BYTES ≡ most_name_bytes
same_most_name_bytes = refl

pub same_most_namespace_bytes : MAX_NAMESPACE_BYTES ≡ most_namespace_bytes
same_most_namespace_bytes = refl

pub same_greatest_rating : MAX_RATING ≡ greatest_rating
same_greatest_rating = refl

pub same_greatest_entity_size : MAX_ENTITY_SIZE ≡ greatest_entity_size
same_greatest_entity_size = refl

pub same_greatest_told : MAX_TOLD_SIZE ≡ greatest_told
same_greatest_told = refl

pub same_most_index_rows : MAX_INDEX_ROWS ≡ most_index_rows
same_most_index_rows = refl

pub same_most_definitions : MAX_DEFINITIONS ≡ most_definitions
same_most_definitions = refl

pub same_most_branches : MAX_BRANCHES ≡ most_branches
same_most_branches = refl

pub same_most_results : MAX_RESULTS ≡ most_results
same_most_results = refl

pub same_most_writes : MAX_WRITES ≡ most_writes
same_most_writes = refl

pub same_most_groups : MAX_GROUPS ≡ most_groups
same_most_groups = refl

pub same_most_commits : MAX_COMMITS ≡ most_commits
same_most_commits = refl

pub same_greatest_client : MAX_CLIENT ≡ greatest_client
same_greatest_client = refl

pub same_most_shards : MAX_SHARDS ≡ most_shards
same_most_shards = refl

pub same_most_appliers : MAX_APPLIERS ≡ most_appliers
same_most_appliers = refl

pub same_greatest_window : MAX_WINDOW ≡ greatest_window
same_greatest_window = refl

pub same_most_line_bytes : MAX_LINE_BYTES ≡ most_line_bytes
same_most_line_bytes = refl

pub same_most_round_lines : MAX_ROUND_LINES ≡ most_round_lines
same_most_round_lines = refl

pub same_most_round_bytes : MAX_ROUND_BYTES ≡ most_round_bytes
same_most_round_bytes = refl

pub same_most_input_bytes : MAX_INPUT_BYTES ≡ most_input_bytes
same_most_input_bytes = refl

pub same_most_file_bytes : MAX_FILE_BYTES ≡ most_file_bytes
same_most_file_bytes = refl
