-- The members of a query in a common line.
use Rattle.std.proofs.Common.{◌≡◌, ℕ, List, [], ◌∷◌, false, Option, Result, Ok, codes}
use Rattle.std.specs.Prelude.{⊤}
use Rattle.serde_json.specs.Data.{Data, Members, put}
use Rattle.ds_json_reading.specs.declared.refusal.Refusal.{Refusal}
use Rattle.ds_json_reading.specs.Reading.{member_of, optional, list_of}
use Rattle.ds_json_reading.specs.Keys.{key_of}
use Rattle.ds_line_reading.specs.Tables.{is_among}
use Rattle.ds_line_reading.specs.TableLaws.{slot_kept, first_other, rest_other}
use Rattle.ds_member_reading.specs.declared.query_members.QueryMembers.{QueryMembers}
use Rattle.ds_member_reading.specs.Forms.{text_of, name_of, namespace_of, flag_of, results_of, filter_of, order_of, select_of}

-- the names of a query's members, each with those that follow it
abbrev from_cursor : List (List ℕ)
from_cursor = codes "cursor" ∷ []

abbrev from_end : List (List ℕ)
from_end = codes "end" ∷ from_cursor

abbrev from_start : List (List ℕ)
from_start = codes "start" ∷ from_end

abbrev from_limit : List (List ℕ)
from_limit = codes "limit" ∷ from_start

abbrev from_offset : List (List ℕ)
from_offset = codes "offset" ∷ from_limit

abbrev from_select : List (List ℕ)
from_select = codes "select" ∷ from_offset

abbrev from_orders : List (List ℕ)
from_orders = codes "orders" ∷ from_select

abbrev from_filters : List (List ℕ)
from_filters = codes "filters" ∷ from_orders

abbrev from_ancestor : List (List ℕ)
from_ancestor = codes "ancestor" ∷ from_filters

abbrev from_kind : List (List ℕ)
from_kind = codes "kind" ∷ from_ancestor

abbrev pub query_names : List (List ℕ)
query_names = codes "namespace" ∷ from_kind

-- each member by its form, or none where it is absent
abbrev pub HoldsQuery : QueryMembers → Members → Type 0
HoldsQuery q ms =
    (optional namespace_of (member_of (codes "namespace") ms) ≡ Ok q.slots.0.found)
    × ((optional name_of (member_of (codes "kind") ms) ≡ Ok q.slots.1.0.found)
    × ((optional key_of (member_of (codes "ancestor") ms) ≡ Ok q.slots.1.1.0.found)
    × ((optional (list_of filter_of) (member_of (codes "filters") ms) ≡ Ok q.slots.1.1.1.0.found)
    × ((optional (list_of order_of) (member_of (codes "orders") ms) ≡ Ok q.slots.1.1.1.1.0.found)
    × ((optional select_of (member_of (codes "select") ms) ≡ Ok q.slots.1.1.1.1.1.0.found)
    × ((optional results_of (member_of (codes "offset") ms) ≡ Ok q.slots.1.1.1.1.1.1.0.found)
    × ((optional results_of (member_of (codes "limit") ms) ≡ Ok q.slots.1.1.1.1.1.1.1.0.found)
    × ((optional text_of (member_of (codes "start") ms) ≡ Ok q.slots.1.1.1.1.1.1.1.1.0.found)
    × ((optional text_of (member_of (codes "end") ms) ≡ Ok q.slots.1.1.1.1.1.1.1.1.1.0.found)
    × ((optional flag_of (member_of (codes "cursor") ms) ≡ Ok q.slots.1.1.1.1.1.1.1.1.1.1.0.found)
    × ⊤))))))))))

-- a member of another name leaves the first of these
pub kept_first : {A : Type 0} (form : Data → Result A Refusal) (called : List ℕ) (names : List (List ℕ)) (found : Option A)
    (name : List ℕ) (d : Data) (ms : Members) → is_among (called ∷ names) name ≡ false
    → optional form (member_of called ms) ≡ Ok found → optional form (member_of called (put name d ms)) ≡ Ok found
kept_first form called names found name d ms other h = slot_kept form called found name d ms (first_other called names name other) h

-- and all of them
pub query_kept : (q : QueryMembers) (name : List ℕ) (d : Data) (ms : Members) → is_among query_names name ≡ false → HoldsQuery q ms
    → HoldsQuery q (put name d ms)
query_kept q name d ms other h =
    let o1 = rest_other (codes "namespace") from_kind name other in
    let o2 = rest_other (codes "kind") from_ancestor name o1 in
    let o3 = rest_other (codes "ancestor") from_filters name o2 in
    let o4 = rest_other (codes "filters") from_orders name o3 in
    let o5 = rest_other (codes "orders") from_select name o4 in
    let o6 = rest_other (codes "select") from_offset name o5 in
    let o7 = rest_other (codes "offset") from_limit name o6 in
    let o8 = rest_other (codes "limit") from_start name o7 in
    let o9 = rest_other (codes "start") from_end name o8 in
    let o10 = rest_other (codes "end") from_cursor name o9 in (
      kept_first namespace_of (codes "namespace") from_kind q.slots.0.found name d ms other h.0,
      (
        kept_first name_of (codes "kind") from_ancestor q.slots.1.0.found name d ms o1 h.1.0,
        (
          kept_first key_of (codes "ancestor") from_filters q.slots.1.1.0.found name d ms o2 h.1.1.0,
          (
            kept_first (list_of filter_of) (codes "filters") from_orders q.slots.1.1.1.0.found name d ms o3 h.1.1.1.0,
            (
              kept_first (list_of order_of) (codes "orders") from_select q.slots.1.1.1.1.0.found name d ms o4 h.1.1.1.1.0,
              (
                kept_first select_of (codes "select") from_offset q.slots.1.1.1.1.1.0.found name d ms o5 h.1.1.1.1.1.0,
                (
                  kept_first results_of (codes "offset") from_limit q.slots.1.1.1.1.1.1.0.found name d ms o6 h.1.1.1.1.1.1.0,
                  (
                    kept_first results_of (codes "limit") from_start q.slots.1.1.1.1.1.1.1.0.found name d ms o7 h.1.1.1.1.1.1.1.0,
                    (
                      kept_first text_of (codes "start") from_end q.slots.1.1.1.1.1.1.1.1.0.found name d ms o8 h.1.1.1.1.1.1.1.1.0,
                      (
                        kept_first text_of (codes "end") from_cursor q.slots.1.1.1.1.1.1.1.1.1.0.found name d ms o9 h.1.1.1.1.1.1.1.1.1.0,
                        (
                          kept_first flag_of (codes "cursor") [] q.slots.1.1.1.1.1.1.1.1.1.1.0.found name d ms o10 h.1.1.1.1.1.1.1.1.1.1.0,
                          tt,
                        ),
                      ),
                    ),
                  ),
                ),
              ),
            ),
          ),
        ),
      ),
    )
