-- What several proofs name of std, of the crates below and of this crate's definitions, handed on.
pub use Rattle.std.proofs.Common.{◌≡◌, inl, inr, ℕ, arith, length, List, [], ◌∷◌, Some, refl, zero, suc, ◌<◌, ◌≤◌, Bool, true, false, map}
pub use Rattle.std.proofs.Common.{get_or, None, Bor, ap, sym, ◌∙◌, ◌+◌, ◌++◌, take, drop, add-one, Option, Ok}
pub use Rattle.std.proofs.lemmas.List.{length-map, get_or-map}
pub use Rattle.std.specs.Prelude.{fold, max, replicate}
pub use Rattle.ds_base.specs.KeyOrder.{same_key}
pub use Rattle.ds_entity.specs.Entities.{EntityParts}
pub use Rattle.ds_indexdef.specs.declared.IndexDef.{IndexDef}
pub use Rattle.ds_model.specs.Asked.{Search}
pub use Rattle.ds_model.specs.Refusals.{Nothing, missing_refusal}
pub use Rattle.ds_model.specs.Sessions.{Session, greater_counts}
pub use Rattle.ds_protocol.specs.Preparing.{ArePlansFor, IsInside, IsRefused}
pub use Rattle.ds_protocol.specs.Searches.{search_parts}
pub use Rattle.ds_query.specs.declared.branch.Branch.{Branch}
pub use Rattle.ds_query.specs.declared.branch.Normal.{Normal}
pub use Rattle.ds_query.specs.declared.branch.Window.{Window}
pub use Rattle.ds_reply.specs.declared.reply.Body.{Body}
