use Rattle.std.proofs.Common.{◌∙◌, refl, lit≤, arith, rules, take, length-set}
use Rattle.std.proofs.lemmas.List.{take-set}
use Rattle.rbc_decode.specs.DecodeText.{reading_kind}
use Rattle.rbc_decode.proofs.RestLemmas.{rest_next, rest_over}
use Rattle.rbc_decode.proofs.ListLemmas.{IsRest, start_rest, room_next, put_next, all_listed}
use Rattle.rbc_decode.proofs.listing.list_fields.Goals as goal

pub loop-count-init : goal.loop-count-init
loop-count-init c = record {
  counted = c.new-fields.ensures.counted;
  within = lit≤ tt;
  long = search rules;
  rest = start_rest c.args.is_packet c.args.bytes.now c.start_of.result c.new-fields.result _ c.start_of.ensures c.new-fields.ensures.bits c.new-fields.ensures.fields refl;
}

pub loop-count-preserved : goal.loop-count-preserved
loop-count-preserved c =
    let loop = c.loop-count in
    let read = c.loop-count-test.ensures in
    let item = c.next.new.item in
    let rest = rest_next loop.fields c.next.new.self (IsRest (take loop.count loop.items) (reading_kind c.args.is_packet c.args.bytes.now))
    item loop.invariant.rest read.next (read.shorter refl) in
    let room = room_next c.args.is_packet c.args.bytes.now loop.items loop.count item c.next.new.self loop.invariant.long loop.invariant.within rest in
    record {
      counted = read.counted;
      within = omega arith;
      long = length-set loop.items loop.count item ∙ loop.invariant.long;
      rest = put_next loop.items loop.count item (reading_kind c.args.is_packet c.args.bytes.now) c.next.new.self (let long = loop.invariant.long in omega arith) rest;
    }

pub returns-clause-items : goal.returns-clause-items
returns-clause-items c =
    let loop = c.loop-count in
    let read = c.loop-count-test.ensures in
    let over = rest_over loop.fields c.next.new.self (IsRest (take loop.count loop.items) (reading_kind c.args.is_packet c.args.bytes.now))
    loop.invariant.rest read.next (read.over refl) in
    take-set loop.items loop.count c.next.new.item ∙ all_listed (take loop.count loop.items) (reading_kind c.args.is_packet c.args.bytes.now) c.next.new.self.found over

pub returns-clause-found : goal.returns-clause-found
returns-clause-found c =
    let loop = c.loop-count in
    let read = c.loop-count-test.ensures in
    let over = rest_over loop.fields c.next.new.self (IsRest (take loop.count loop.items) (reading_kind c.args.is_packet c.args.bytes.now))
    loop.invariant.rest read.next (read.over refl) in
    c.found.ensures ∙ over.found
