use Rattle.std.proofs.Common.{◌≡◌, ◌<◌, ◌++◌, refl, ap, ◌∙◌, arith}
use Rattle.std.specs.Prelude.{codes, decimal}
use Rattle.avro_schema.specs.Canonical.{quote, symbol_list, field_list}
use Rattle.avro_schema.specs.Forms.{types_of, fields_at}
use Rattle.avro_schema.specs.declared.parts.Form.TheVariants.{Array, Map, Union, Fixed, Enum, Record}
use Rattle.avro_schema.proofs.Written.{on_ok, two, three, head_and, form_before, written, plain_written}
use Rattle.avro_schema.proofs.canonical.+writer.Goals as goal

pub write_type-write_type-requires : goal.write_type-write_type-requires
write_type-write_type-requires t c =
    let below : c.in-Array.items < c.args.node = form_before c.args.nodes.now.items c.args.node c.index-form.result.now (Array c.in-Array.items) c.requires.before c.requires.inside c.index-form.ensures c.in-Array.is in
    (omega (arith, c.decreases), (c.requires.before, omega arith))

pub write_type-write_type-requires-in-Map : goal.write_type-write_type-requires-in-Map
write_type-write_type-requires-in-Map t c =
    let below : c.in-Map.values < c.args.node = form_before c.args.nodes.now.items c.args.node c.index-form.result.now (Map c.in-Map.values) c.requires.before c.requires.inside c.index-form.ensures c.in-Map.is in
    (omega (arith, c.decreases), (c.requires.before, omega arith))

pub write_type-write_branches-requires : goal.write_type-write_branches-requires
write_type-write_branches-requires t c =
    let below = form_before c.args.nodes.now.items c.args.node c.index-form.result.now (Union c.in-Union.branches c.in-Union.field-1) c.requires.before c.requires.inside c.index-form.ensures c.in-Union.is in
    (omega (arith, c.decreases), (c.requires.before, (c.requires.inside, below)))

pub write_type-write_fields-requires : goal.write_type-write_fields-requires
write_type-write_fields-requires t c =
    let below = form_before c.args.nodes.now.items c.args.node c.index-form.result.now (Record c.in-Record.name c.in-Record.fields) c.requires.before c.requires.inside c.index-form.ensures c.in-Record.is in
    (omega (arith, c.decreases), (c.requires.before, (c.requires.inside, below)))

pub write_type-returns-in_ok-write_type-in-Array : goal.write_type-returns-in_ok-write_type-in-Array
write_type-returns-in_ok-write_type-in-Array t c =
    on_ok c.push-in-Array.result _ _ (λ e.
    written c.args.nodes.now.items c.args.node c.index-form.result.now (Array c.in-Array.items) c.requires.before c.requires.inside c.index-form.ensures c.in-Array.is c.args.text.now c.push-in-Array.new.text _ refl
    (three c.args.text.now c.push.new.text c.write_type.new.text c.push-in-Array.new.text _ _ _ c.in_ok-push-in-Array.ensures c.in_ok-write_type-in-Array.ensures e)) c.push-in-Array.ensures

pub write_type-returns-in_ok-write_type-in-Map : goal.write_type-returns-in_ok-write_type-in-Map
write_type-returns-in_ok-write_type-in-Map t c =
    on_ok c.push-in-Map-2.result _ _ (λ e.
    written c.args.nodes.now.items c.args.node c.index-form.result.now (Map c.in-Map.values) c.requires.before c.requires.inside c.index-form.ensures c.in-Map.is c.args.text.now c.push-in-Map-2.new.text _ refl
    (three c.args.text.now c.push-in-Map.new.text c.write_type-in-Map.new.text c.push-in-Map-2.new.text _ _ _ c.in_ok-push-in-Map.ensures c.in_ok-write_type-in-Map.ensures e)) c.push-in-Map-2.ensures

pub write_type-returns-in_ok-push-in-Union : goal.write_type-returns-in_ok-push-in-Union
write_type-returns-in_ok-push-in-Union t c =
    on_ok c.write_branches.result _ _ (λ e.
    written c.args.nodes.now.items c.args.node c.index-form.result.now (Union c.in-Union.branches c.in-Union.field-1) c.requires.before c.requires.inside c.index-form.ensures c.in-Union.is c.args.text.now c.write_branches.new.text _ refl
    (two c.args.text.now c.push-in-Union.new.text c.write_branches.new.text _ _ c.in_ok-push-in-Union.ensures e)) c.write_branches.ensures

pub write_type-returns-in-Fixed : goal.write_type-returns-in-Fixed
write_type-returns-in-Fixed t c =
    on_ok c.write_fixed.result _ _ (λ e.
    written c.args.nodes.now.items c.args.node c.index-form.result.now (Fixed c.in-Fixed.name c.in-Fixed.size) c.requires.before c.requires.inside c.index-form.ensures c.in-Fixed.is c.args.text.now c.write_fixed.new.text _ refl
    (e ∙ ap (λ n. c.args.text.now ++ (codes "{\"name\":" ++ (quote n ++ (codes ",\"type\":\"fixed\",\"size\":" ++ (decimal c.in-Fixed.size ++ codes "}"))))) c.as_str.ensures)) c.write_fixed.ensures

pub write_type-returns-in_ok-push_head-in-Enum : goal.write_type-returns-in_ok-push_head-in-Enum
write_type-returns-in_ok-push_head-in-Enum t c =
    on_ok c.write_symbols.result _ _ (λ e.
    written c.args.nodes.now.items c.args.node c.index-form.result.now (Enum c.in-Enum.name c.in-Enum.symbols) c.requires.before c.requires.inside c.index-form.ensures c.in-Enum.is c.args.text.now c.write_symbols.new.text _ refl
    (head_and c.args.text.now c.push_head.new.text c.write_symbols.new.text (codes "{\"name\":") (quote c.in-Enum.name) (codes ",\"type\":\"enum\",\"symbols\":[") (symbol_list c.in-Enum.symbols)
    (c.in_ok-push_head-in-Enum.ensures ∙ ap (λ n. c.args.text.now ++ (codes "{\"name\":" ++ (quote n ++ codes ",\"type\":\"enum\",\"symbols\":["))) c.as_str-in-Enum.ensures) (e ∙ ap (λ ss. c.push_head.new.text ++ symbol_list ss) c.as_slice.ensures))) c.write_symbols.ensures

pub write_type-returns-in_ok-push_head-in-Record : goal.write_type-returns-in_ok-push_head-in-Record
write_type-returns-in_ok-push_head-in-Record t c =
    let head : c.push_head-in-Record.new.text ≡ c.args.text.now ++ (codes "{\"name\":" ++ (quote c.as_str-in-Record.result.now ++ codes ",\"type\":\"record\",\"fields\":[")) = c.in_ok-push_head-in-Record.ensures in
    on_ok c.write_fields.result _ _ (λ e.
    written c.args.nodes.now.items c.args.node c.index-form.result.now (Record c.in-Record.name c.in-Record.fields) c.requires.before c.requires.inside c.index-form.ensures c.in-Record.is c.args.text.now c.write_fields.new.text _ refl
    (head_and c.args.text.now c.push_head-in-Record.new.text c.write_fields.new.text (codes "{\"name\":") (quote c.in-Record.name) (codes ",\"type\":\"record\",\"fields\":[") (field_list (fields_at (types_of c.args.nodes.now.items) c.in-Record.fields.items))
    (head ∙ ap (λ n. c.args.text.now ++ (codes "{\"name\":" ++ (quote n ++ codes ",\"type\":\"record\",\"fields\":["))) c.as_str-in-Record.ensures) e)) c.write_fields.ensures

pub write_type-returns-in_default : goal.write_type-returns-in_default
write_type-returns-in_default t c =
    let spells = plain_written (types_of c.args.nodes.now.items) c.index-form.result.now c.in_default.not-Array c.in_default.not-Map c.in_default.not-Union c.in_default.not-Fixed c.in_default.not-Enum c.in_default.not-Record in
    on_ok c.push_quoted.result _ _ (λ e.
    written c.args.nodes.now.items c.args.node c.index-form.result.now c.index-form.result.now c.requires.before c.requires.inside c.index-form.ensures refl c.args.text.now c.push_quoted.new.text _ spells
    (e ∙ ap (λ n. c.args.text.now ++ quote n) c.name_in.ensures)) c.push_quoted.ensures
