use Rattle.std.proofs.Common.{◌≡◌, Some, None, ap, sym, ◌∙◌, position, find, slice_get, List}
use Rattle.rbc_model.specs.declared.tracks.BaliseGroup.{BaliseGroup}
use Rattle.rbc_model.specs.Tracks.{group_name_eq}
use Rattle.rbc_track.proofs.FindingLemmas.{position-named, find-position, got}
use Rattle.rbc_track.proofs.group_table.Groups.find.Goals as goal

pub returns-in_err-index : goal.returns-in_err-index
returns-in_err-index c =
    let place : position (λ other. group_name_eq other c.args.name) c.self.inside.names ≡ position (λ group. group_name_eq group.name c.args.name) c.self.inside.groups.items = position-named (λ other. group_name_eq other c.args.name) (λ group. group.name) c.self.inside.names c.self.inside.groups.items c.self.invariant.listed in
    let there = find-position (λ group. group_name_eq group.name c.args.name) c.self.inside.groups.items None (sym place ∙ sym c.position.ensures ∙ c.in_err-index.was) in
    c.from_residual.ensures ∙ sym there ∙ ap (λ (groups : List BaliseGroup). find (λ group. group_name_eq group.name c.args.name) groups) c.self.view_is

pub returns : goal.returns
returns c =
    let place : position (λ other. group_name_eq other c.args.name) c.self.inside.names ≡ position (λ group. group_name_eq group.name c.args.name) c.self.inside.groups.items = position-named (λ other. group_name_eq other c.args.name) (λ group. group.name) c.self.inside.names c.self.inside.groups.items c.self.invariant.listed in
    let there = find-position (λ group. group_name_eq group.name c.args.name) c.self.inside.groups.items (Some c.in_ok-index.index) (sym place ∙ sym c.position.ensures ∙ c.in_ok-index.was) in
    c.copied.ensures ∙ got c.deref.result.now c.in_ok-index.index c.get.result c.get.ensures.lookup.0 c.get.ensures.lookup.1
    ∙ ap (λ (groups : List BaliseGroup). slice_get groups c.in_ok-index.index) c.deref.ensures.value ∙ sym there
    ∙ ap (λ (groups : List BaliseGroup). find (λ group. group_name_eq group.name c.args.name) groups) c.self.view_is
