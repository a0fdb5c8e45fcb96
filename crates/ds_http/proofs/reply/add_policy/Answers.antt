use Rattle.http_server.specs.Response.{fields_of}
use Rattle.ds_http.specs.Bodies.{policy}
use Rattle.ds_http.proofs.Shaking.{one_field}
use Rattle.ds_http.proofs.reply.add_policy.Goals as goal

pub returns-clause-fields : goal.returns-clause-fields
returns-clause-fields c = one_field c.add_header.result (fields_of c.args.response.now) (fields_of c.add_header.new.self) _ policy c.from_static.result c.from_static.ensures c.add_header.ensures.headers
