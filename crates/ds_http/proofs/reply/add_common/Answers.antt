use Rattle.std.proofs.Common.{codes}
use Rattle.http_server.specs.Response.{fields_of}
use Rattle.ds_http.specs.Bodies.{media_type}
use Rattle.ds_http.proofs.Shaking.{three}
use Rattle.ds_http.proofs.reply.add_common.Goals as goal

pub returns-clause-fields : goal.returns-clause-fields
returns-clause-fields c = three c.add_header-3.result (fields_of c.args.response.now) (fields_of c.add_header.new.self) (fields_of c.add_header-2.new.self) (fields_of c.add_header-3.new.self)
    (codes "content-type") (codes "cache-control") (codes "x-content-type-options") c.media_type.result c.from_static.result c.from_static-2.result (media_type c.args.kind) (codes "no-store") (codes "nosniff")
    c.media_type.ensures c.from_static.ensures c.from_static-2.ensures c.in_ok-add_header.ensures.headers c.in_ok-add_header-2.ensures.headers c.add_header-3.ensures.headers
